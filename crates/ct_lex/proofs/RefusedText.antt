-- The text of an argument: where the grammar says that it is broken, or that the text ends in it,
-- the reader stops there for that reason.
use Rattle.std.proofs.Common.{◌≡◌, ℕ, suc, ◌+◌, ◌<◌, Bool, true, false, cond, ◌||◌, ◌&&◌, ◌==◌, nat_lt, List, [], ◌∷◌, ◌++◌, length, take, drop, get_or, None, Result, Ok, Err, codes, refl, ap, ◌∙◌, arith, append_assoc, append-nil, length-append}
use Rattle.std.proofs.lemmas.Bool.Decides.{nat_tests}
use Rattle.std.proofs.lemmas.Bool.{or_parts}
use Rattle.std.proofs.Math.Seq.{get_or-append_seam}
use Rattle.std.specs.List.{prefix_len, starts_with}
use Rattle.ct_lex.specs.Argument.{begins_reference, ends_text}
use Rattle.ct_lex.specs.Bracket.{opening}
use Rattle.ct_lex.specs.Broken as broken
use Rattle.ct_lex.specs.Broken.{FaultKind, IsBrokenUnit, IsCutUnit}
use Rattle.ct_lex.specs.Bytes.{stands, is_name}
use Rattle.ct_lex.specs.Grammar as grammar
use Rattle.ct_lex.specs.Grammar.{BeginsBracket, IsText}
use Rattle.ct_lex.specs.Place.{fault_of}
use Rattle.ct_lex.specs.Stop.{refused}
use Rattle.ct_lex.specs.Text.{moved, piece_before, text_from}
use Rattle.ct_lex.specs.Unit.{name_len, reference_by, reference_at, unit_at}
use Rattle.ct_lex.specs.declared.call.ArgKind.{ArgKind}
use Rattle.ct_lex.specs.declared.call.Part.{Part}
use Rattle.ct_lex.specs.declared.call.Part.TheVariants.{Bytes, Ref}
use Rattle.ct_lex.specs.declared.stop.Cause.{Cause}
use Rattle.ct_lex.specs.declared.stop.Cause.TheVariants.{BadEscape, BadReference}
use Rattle.ct_lex.specs.declared.stop.Stop.{Stop}
use Rattle.ct_lex.specs.declared.stop.Stop.TheVariants.{Ended, At}
use Rattle.ct_lex.proofs.FrontLemmas.{not_true, run-read}
use Rattle.ct_lex.proofs.StepLemmas.{text_from-step}
use Rattle.ct_lex.proofs.BracketLemmas.{opening-behind, opening-alone}
use Rattle.ct_lex.proofs.TextLemmas.{read_of, run-whole, starts-same, three-same, variable-is, reference-read, behind-reference, ends-backslash, ends-dollar}

-- the text is empty, or begins with a backslash or a `$`
pub data IsMarked : List ℕ → Type 0 where
  nothing : IsMarked []
  backslash : (rest : List ℕ) → IsMarked (92 ∷ rest)
  dollar : (rest : List ℕ) → IsMarked (36 ∷ rest)

-- no reference begins in front of such a text and ends in it
marked-reference : {back : List ℕ} → IsMarked back → (front : List ℕ) → begins_reference front ≡ false → begins_reference (front ++ back) ≡ false
marked-reference nothing front e = ap (λ t. begins_reference t) (append-nil front) ∙ e
marked-reference (backslash rest) front e =
    three-same _ _ _ _ _ _ (starts-same (codes "{") front 92 rest refl) (starts-same (codes "ENV{") front 92 rest refl) (starts-same (codes "CACHE{") front 92 rest refl) ∙ e
marked-reference (dollar rest) front e =
    three-same _ _ _ _ _ _ (starts-same (codes "{") front 36 rest refl) (starts-same (codes "ENV{") front 36 rest refl) (starts-same (codes "CACHE{") front 36 rest refl) ∙ e

-- no bracket opens in front of such a text and ends in it
pub marked-opening : {back : List ℕ} → IsMarked back → (front : List ℕ) → (BeginsBracket front → ⊥) → opening (front ++ back) ≡ None
marked-opening nothing front unopened = ap (λ t. opening t) (append-nil front) ∙ opening-alone front unopened
marked-opening (backslash rest) front unopened = opening-behind front 92 rest refl unopened
marked-opening (dollar rest) front unopened = opening-behind front 36 rest refl unopened

back-first : (kind : ArgKind) {back : List ℕ} → IsMarked back → 0 < length back → ends_text kind (get_or back 0 0) ≡ false
back-first kind nothing some = absurd (omega arith)
back-first kind (backslash rest) some = ends-backslash kind
back-first kind (dollar rest) some = ends-dollar kind

-- the text of an argument in front of such a text does not begin with a byte that ends it
pub marked-first : {kind : ArgKind} {text back : List ℕ} {parts : List Part} → IsText kind text parts → IsMarked back → 0 < length (text ++ back) → ends_text kind (get_or (text ++ back) 0 0) ≡ false
marked-first {kind} grammar.nothing m some = back-first kind m some
marked-first {kind} (grammar.plain byte fits t) m some =
    (or_parts (ends_text kind byte) (byte == 92 || byte == 36) (not_true (ends_text kind byte || (byte == 92 || byte == 36)) fits)).0
marked-first {kind} (grammar.escape byte piece e t) m some = ends-backslash kind
marked-first {kind} (grammar.dollar e t) m some = ends-dollar kind
marked-first {kind} (grammar.reference name v t) m some = ends-dollar kind

-- where the reader stops behind a unit, it stops
unit-passed : (kind : ArgKind) (text : List ℕ) (piece : Part) (n : ℕ) (stop : Stop) → 0 < n → ends_text kind (get_or text 0 0) ≡ false → unit_at kind text ≡ Ok (piece, n) → text_from kind 0 (drop n text) ≡ Err stop → text_from kind 0 text ≡ Err stop
unit-passed kind text piece n stop some ends unit read = text_from-step kind text piece n some ends unit ∙ ap (λ r. piece_before piece (moved n r)) read

-- where the reader stops behind the text of an argument, it stops
pub text-refused : {kind : ArgKind} {text : List ℕ} {parts : List Part} → IsText kind text parts → (back : List ℕ) (stop : Stop) → IsMarked back → text_from kind 0 back ≡ Err stop → text_from kind 0 (text ++ back) ≡ Err stop
text-refused grammar.nothing back stop m read = read
text-refused {kind} (grammar.plain {text = text} first fits t) back stop m read =
    let plain_so = or_parts (ends_text kind first) (first == 92 || first == 36) (not_true (ends_text kind first || (first == 92 || first == 36)) fits) in
    let others = or_parts (first == 92) (first == 36) plain_so.1 in
    let unit : unit_at kind (first ∷ (text ++ back)) ≡ Ok (Bytes (first ∷ []), 1) = rw (others.0, others.1) refl in
    unit-passed kind (first ∷ (text ++ back)) (Bytes (first ∷ [])) 1 stop (omega arith) plain_so.0 unit (text-refused t back stop m read)
text-refused {kind} (grammar.escape {text = text} next piece e t) back stop m read =
    let unit : unit_at kind (92 ∷ next ∷ (text ++ back)) ≡ Ok (piece, 2) = rw e refl in
    unit-passed kind (92 ∷ next ∷ (text ++ back)) piece 2 stop (omega arith) (ends-backslash kind) unit (text-refused t back stop m read)
text-refused {kind} (grammar.dollar {text = text} e t) back stop m read =
    let rest : List ℕ = text ++ back in
    let no_reference : begins_reference rest ≡ false = marked-reference m text e in
    let no_brace = or_parts (starts_with ◌==◌ rest (codes "{")) (starts_with ◌==◌ rest (codes "ENV{") || starts_with ◌==◌ rest (codes "CACHE{")) no_reference in
    let unit : unit_at kind (36 ∷ rest) ≡ Ok (Bytes (36 ∷ []), 1) = ap (λ b. cond b (reference_at (36 ∷ rest)) (cond (begins_reference rest) (refused BadReference (36 ∷ rest)) (read_of (Bytes (36 ∷ [])) 1))) no_brace.0 ∙ ap (λ b. cond b (refused BadReference (36 ∷ rest)) (read_of (Bytes (36 ∷ [])) 1)) no_reference in
    unit-passed kind (36 ∷ rest) (Bytes (36 ∷ [])) 1 stop (omega arith) (ends-dollar kind) unit (text-refused t back stop m read)
text-refused {kind} (grammar.reference {text = text} name v t) back stop m read =
    let rest : List ℕ = text ++ back in
    let variable = variable-is name v in
    let whole : List ℕ = 36 ∷ 123 ∷ (name ++ 125 ∷ rest) in
    ap (λ t. text_from kind 0 (36 ∷ 123 ∷ t)) (append_assoc name (125 ∷ text) back)
    ∙ unit-passed kind whole (Ref name) (length name + 3) stop (omega arith) (ends-dollar kind) (reference-read kind name rest variable.0 variable.1)
    (ap (λ t. text_from kind 0 t) (behind-reference name rest) ∙ text-refused t back stop m read)

-- a unit that is refused stops the text that it begins
unit-refused : (kind : ArgKind) (byte : ℕ) (rest : List ℕ) (stop : Stop) → ends_text kind byte ≡ false → unit_at kind (byte ∷ rest) ≡ Err stop → text_from kind 0 (byte ∷ rest) ≡ Err stop
unit-refused kind byte rest stop ends unit = rw (ends, unit) refl

-- a text that ends inside the text of an argument
pub record TextCut (kind : ArgKind) (text : List ℕ) : Type 0 where
  pub reads : text_from kind 0 text ≡ Err Ended
  pub marked : IsMarked text

pub cut-refused : (kind : ArgKind) {text : List ℕ} → IsCutUnit text → TextCut kind text
cut-refused kind broken.nothing = record { reads = refl; marked = nothing }
cut-refused kind broken.backslash = record { reads = unit-refused kind 92 [] Ended (ends-backslash kind) refl; marked = backslash [] }
cut-refused kind (broken.name name all) =
    let whole : List ℕ = 36 ∷ 123 ∷ name in
    let run : name_len name ≡ length name = run-whole is_name name all in
    let at_end : (length name + 2 == length whole) ≡ true = grind (arith, nat_tests) in
    let ended : reference_by whole (length name) ≡ Err Ended = rw at_end refl in
    let unit : unit_at kind whole ≡ Err Ended = ap (λ k. reference_by whole k) run ∙ ended in
    record { reads = unit-refused kind 36 (123 ∷ name) Ended (ends-dollar kind) unit; marked = dollar (123 ∷ name) }

-- a broken unit is refused at its first byte, for the cause of its kind of fault
pub record TextBreaks (kind : ArgKind) (text : List ℕ) (fault : FaultKind) : Type 0 where
  pub why : Cause
  pub fault_is : fault_of why ≡ fault
  pub reads : text_from kind 0 text ≡ Err (At why (length text))
  pub marked : IsMarked text
  pub some : 0 < length text

and_none : (test : Bool) → (test && false) ≡ false
and_none true = refl
and_none false = refl

-- `${` with a name behind which no `}` stands, or without a name
brace-refused : (kind : ArgKind) (name : List ℕ) (byte : ℕ) (text : List ℕ) → prefix_len is_name name ≡ length name → is_name byte ≡ false →
    (nat_lt 0 (length name) && stands 125 (length name + 2) (36 ∷ 123 ∷ (name ++ byte ∷ text))) ≡ false → TextBreaks kind (36 ∷ 123 ∷ (name ++ byte ∷ text)) (fault_of BadReference)
brace-refused kind name byte text all other unclosed =
    let whole : List ℕ = 36 ∷ 123 ∷ (name ++ byte ∷ text) in
    let size : length whole ≡ length name + length text + 3 = omega (arith, length-append name (byte ∷ text)) in
    let run : name_len (name ++ byte ∷ text) ≡ length name = run-read is_name name byte text all other in
    let long : (length name + 2 == length whole) ≡ false = grind (arith, nat_tests, size) in
    let taken : Result (Part × ℕ) Stop = read_of (Ref (take (length name) (name ++ byte ∷ text))) (length name + 3) in
    let unit : unit_at kind whole ≡ Err (At BadReference (length whole)) =
    ap (λ k. reference_by whole k) run
    ∙ ap (λ b. cond b (Err Ended) (cond (nat_lt 0 (length name) && stands 125 (length name + 2) whole) taken (refused BadReference whole))) long
    ∙ ap (λ b. cond b taken (refused BadReference whole)) unclosed in
    record { why = BadReference; fault_is = refl; reads = unit-refused kind 36 (123 ∷ (name ++ byte ∷ text)) (At BadReference (length whole)) (ends-dollar kind) unit; marked = dollar (123 ∷ (name ++ byte ∷ text)); some = omega arith }

pub unit-breaks : {kind : ArgKind} {text : List ℕ} {fault : FaultKind} → IsBrokenUnit kind text fault → TextBreaks kind text fault
unit-breaks {kind} (broken.escape byte text e) =
    let whole : List ℕ = 92 ∷ byte ∷ text in
    let unit : unit_at kind whole ≡ Err (At BadEscape (length whole)) = rw e refl in
    record { why = BadEscape; fault_is = refl; reads = unit-refused kind 92 (byte ∷ text) (At BadEscape (length whole)) (ends-backslash kind) unit; marked = backslash (byte ∷ text); some = omega arith }
unit-breaks {kind} (broken.no_name text) = brace-refused kind [] 125 text refl refl refl
unit-breaks {kind} (broken.no_brace name byte text all other unclosed) =
    let whole : List ℕ = 36 ∷ 123 ∷ (name ++ byte ∷ text) in
    let size : length whole ≡ length name + length text + 3 = omega (arith, length-append name (byte ∷ text)) in
    let shift : length name + 2 ≡ suc (suc (length name)) = omega arith in
    let seam : get_or whole (length name + 2) 0 ≡ byte = ap (λ i. get_or whole i 0) shift ∙ get_or-append_seam name byte text 0 in
    let within : nat_lt (length name + 2) (length whole) ≡ true = grind (arith, nat_tests, size) in
    let other_byte : stands 125 (length name + 2) whole ≡ false = rw (within, seam) unclosed in
    brace-refused kind name byte text (run-whole is_name name all) other (ap (λ b. nat_lt 0 (length name) && b) other_byte ∙ and_none (nat_lt 0 (length name)))
unit-breaks {kind} (broken.environment text) =
    let whole : List ℕ = codes "$ENV{" ++ text in
    record { why = BadReference; fault_is = refl; reads = unit-refused kind 36 (codes "ENV{" ++ text) (At BadReference (length whole)) (ends-dollar kind) refl; marked = dollar (codes "ENV{" ++ text); some = omega arith }
unit-breaks {kind} (broken.cache text) =
    let whole : List ℕ = codes "$CACHE{" ++ text in
    record { why = BadReference; fault_is = refl; reads = unit-refused kind 36 (codes "CACHE{" ++ text) (At BadReference (length whole)) (ends-dollar kind) refl; marked = dollar (codes "CACHE{" ++ text); some = omega arith }
