-- What a call does to files or to a sink, which may tell what they hold. This project's own.
use Rattle.std.specs.Prelude.{◌≡◌, ◌≢◌, ⊤, ℕ, ◌+◌, ◌-◌, ◌^◌, ◌≤◌, ◌⊎◌, min, List, [], ◌∷◌, ◌++◌, Option, Some, Result, IfSome, IsSomeAnd, IsErrOf, OnOk, OnErr}
use Rattle.ct_base.specs.declared.file_call.FileCall.{FileCall}
use Rattle.ct_base.specs.declared.file_call.FileCall.TheVariants as call
use Rattle.ct_base.specs.declared.files.FilesFault.{FilesFault}
use Rattle.ct_base.specs.declared.files.FilesFault.TheVariants as Files
use Rattle.ct_base.specs.declared.sink.SinkFault.{SinkFault}
use Rattle.ct_base.specs.declared.sink.SinkFault.TheVariants as Sinks

-- a count of faults has risen; at its greatest value, 2^64 - 1, it counts as risen
abbrev pub Rose : ℕ → ℕ → Type 0
Rose before now = min (before + 1) (2 ^ 64 - 1) ≤ now

-- the count of faults never falls; it rises if the call returns this fault, and stays if not
pub record HasCause {T E : Type 0} (fault : E) (before now : ℕ) (result : Result T E) : Type 0 where
  pub later : before ≤ now
  pub failed : IsErrOf result fault → Rose before now
  pub unfailed : (IsErrOf result fault → ⊥) → now ≡ before

-- if a value was told before, a value is told now, and P relates the two
abbrev pub Becomes : {A : Type 0} → Option A → Option A → (A → A → Type 0) → Type 0
Becomes old new P = IfSome old (λ before. IsSomeAnd new (λ now. P before now))

-- the list has grown at its end by exactly this piece
abbrev pub Adds : {A : Type 0} → List A → List A → List A → Type 0
Adds piece before now = now ≡ before ++ piece

-- the list has grown at its end by a beginning of the piece, from none of it to all
pub record AddsPrefix {A : Type 0} (piece before now : List A) : Type 0 where
  pub kept : List A
  pub lost : List A
  pub parts : piece ≡ kept ++ lost
  pub is : now ≡ before ++ kept

-- what files hold: at most one content for each path
abbrev pub Held : Type 0
Held = List ℕ → Option (List ℕ)

-- each path holds what it held before
abbrev pub SameHeld : Held → Held → Type 0
SameHeld before now = (path : List ℕ) → now path ≡ before path

-- the path holds the bytes, and each other path holds what it held
pub record Writes (path bytes : List ℕ) (before now : Held) : Type 0 where
  pub here : now path ≡ Some bytes
  pub others : (other : List ℕ) → other ≢ path → now other ≡ before other

-- the path holds nothing, or a beginning of the bytes, and each other path holds what it held
pub record Tears (path bytes : List ℕ) (before now : Held) : Type 0 where
  pub here : IfSome (now path) (λ left. AddsPrefix bytes [] left)
  pub others : (other : List ℕ) → other ≢ path → now other ≡ before other

-- a failed write left every path as it was, or left at this path nothing or a beginning of the bytes
abbrev pub FailsToWrite : List ℕ → List ℕ → Held → Held → Type 0
FailsToWrite path bytes before now = SameHeld before now ⊎ Tears path bytes before now

-- what files tell: what they hold, the path of the last call that failed, and how many calls failed.
-- The path is None where they do not tell it, and Some None where no call failed yet
pub record FilesTell : Type 0 where
  pub held : Option Held
  pub refused : Option (Option (List ℕ))
  pub faults : ℕ

-- every call on files: on Failed, its path is the refused path, where that is told, and the count rose;
-- on any other answer both stay. Files that tell the refused path go on telling it
pub record Asks {T : Type 0} (path : List ℕ) (before now : FilesTell) (result : Result T FilesFault)
    : Type 0 where
  pub told : Becomes before.refused now.refused (λ was last. ⊤)
  pub refused : IsErrOf result Files.Failed → IfSome now.refused (λ last. last ≡ Some path)
  pub unrefused : (IsErrOf result Files.Failed → ⊥) → now.refused ≡ before.refused
  pub cause : HasCause Files.Failed before.faults now.faults result

-- a call that looks at a path: each path holds what it held
pub record LooksAt {T : Type 0} (path : List ℕ) (before now : FilesTell) (result : Result T FilesFault)
    : Type 0 where
  pub asks : Asks path before now result
  pub kept : Becomes before.held now.held SameHeld

-- a call that writes bytes to a path, by its outcome:
-- the path holds the bytes; or the write failed; or memory was wanting and no path changed
pub record WritesTo (path bytes : List ℕ) (before now : FilesTell) (result : Result (Unit {0}) FilesFault)
    : Type 0 where
  pub asks : Asks path before now result
  pub ok : OnOk result (Becomes before.held now.held (Writes path bytes))
  pub failed : IsErrOf result Files.Failed → Becomes before.held now.held (FailsToWrite path bytes)
  pub no_memory : IsErrOf result Files.NoMemory → Becomes before.held now.held SameHeld

-- the path that a call on files is about
abbrev pub path_of : FileCall → List ℕ
path_of (call.Read path most) = path
path_of (call.Exists path) = path
path_of (call.Write path length) = path

-- a call on files that may tell which calls were made: it stands behind those that were made before,
-- whatever it returns; where memory was wanting, it may be missing
pub record Makes {T : Type 0} (made : FileCall) (before now : Option (List FileCall))
    (result : Result T FilesFault) : Type 0 where
  pub ok : OnOk result (Becomes before now (Adds (made ∷ [])))
  pub failed : IsErrOf result Files.Failed → Becomes before now (Adds (made ∷ []))
  pub no_memory : IsErrOf result Files.NoMemory → Becomes before now (AddsPrefix (made ∷ []))

-- what a sink tells: all that it took, the pieces that it took whole, put by put, and how many calls failed
pub record SinkTell : Type 0 where
  pub written : Option (List ℕ)
  pub pieces : Option (List (List ℕ))
  pub faults : ℕ

-- a call that puts a text: an Ok adds the whole text to what was written, an Err adds a beginning of it
pub record Puts (text : List ℕ) (before now : SinkTell) (result : Result (Unit {0}) SinkFault) : Type 0 where
  pub ok : OnOk result (Becomes before.written now.written (Adds text))
  pub err : OnErr result (Becomes before.written now.written (AddsPrefix text))
  pub cause : HasCause Sinks.Failed before.faults now.faults result

-- calls that put lines, each line as one put: an Ok adds all of them, an Err adds some first lines whole
pub record PutsEach (lines : List (List ℕ)) (before now : SinkTell) (result : Result (Unit {0}) SinkFault)
    : Type 0 where
  pub ok : OnOk result (Becomes before.pieces now.pieces (Adds lines))
  pub err : OnErr result (Becomes before.pieces now.pieces (AddsPrefix lines))
