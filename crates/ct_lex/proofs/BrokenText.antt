-- The text of an argument: where the reader stops, the text is broken by the grammar, or it ends.
use Rattle.std.proofs.Common.{◌≡◌, ℕ, zero, suc, ◌+◌, ◌<◌, Bool, true, false, cond, ◌||◌, ◌&&◌, ◌==◌, nat_lt, List, [], ◌∷◌, ◌++◌, length, take, drop, get_or, Option, Some, None, Result, Ok, Err, codes, refl, sym, ap, ◌∙◌, subst, arith, append_assoc, append-nil, length-append, length-drop}
use Rattle.std.proofs.lemmas.Bool.Decides.{nat_tests}
use Rattle.std.proofs.lemmas.Bool.{true≢false, and_parts, or_parts, or_from, and_from}
use Rattle.std.proofs.Math.Seq.{get_or-append_seam}
use Rattle.std.specs.List.{prefix_len, starts_with}
use Rattle.ct_lex.specs.Argument.{escaped, begins_reference, ends_text, is_plain}
use Rattle.ct_lex.specs.Broken as broken
use Rattle.ct_lex.specs.Broken.{FaultKind, IsBrokenUnit, IsCutUnit}
use Rattle.ct_lex.specs.Bytes.{stands, is_name}
use Rattle.ct_lex.specs.Grammar as grammar
use Rattle.ct_lex.specs.Grammar.{IsText}
use Rattle.ct_lex.specs.Place.{fault_of}
use Rattle.ct_lex.specs.Stop.{refused}
use Rattle.ct_lex.specs.Text.{moved, piece_before, text_from}
use Rattle.ct_lex.specs.Unit.{escape_by, escape_at, reference_by, reference_at, dollar_at, unit_at}
use Rattle.ct_lex.specs.declared.call.ArgKind.{ArgKind}
use Rattle.ct_lex.specs.declared.call.Part.{Part}
use Rattle.ct_lex.specs.declared.call.Part.TheVariants.{Bytes, Ref}
use Rattle.ct_lex.specs.declared.stop.Cause.TheVariants.{BadEscape, BadReference}
use Rattle.ct_lex.specs.declared.stop.Stop.{Stop}
use Rattle.ct_lex.specs.declared.stop.Stop.TheVariants.{Ended, At}
use Rattle.ct_lex.proofs.FrontLemmas.{behind-front, stands-at}
use Rattle.ct_lex.proofs.StepLemmas.{text_from-step}
use Rattle.ct_lex.proofs.TextLemmas.{IsUnitAt, plain, escape, reference, dollar, RunRead, run-of, read_of, unit-is, unit-some, behind-reference}

-- why a reader stops, if it does
pub same_stop : {A : Type 0} (a b : Stop) (read : Result A Stop) → read ≡ Err a → read ≡ Err b → a ≡ b
same_stop a b read e f = cc

-- a unit at the front of a text is broken, or the text ends in it
abbrev pub UnitStops : ArgKind → List ℕ → Stop → Type 0
UnitStops kind text Ended = IsCutUnit text
UnitStops kind text (At cause left) = (length text ≡ left) × IsBrokenUnit kind text (fault_of cause)

unit_stops_as : (kind : ArgKind) (text : List ℕ) (a b : Stop) → a ≡ b → UnitStops kind text a → UnitStops kind text b
unit_stops_as kind text a b e stops = subst (λ (s : Stop). UnitStops kind text s) e stops

-- a run of bytes of one kind ends in front of a byte of another kind
pub run-ends : (p : ℕ → Bool) (run : List ℕ) (byte : ℕ) (back : List ℕ) → prefix_len p (run ++ byte ∷ back) ≡ length run → p byte ≡ false
run-ends p [] byte back e = by_test (p byte) refl e
  where
    by_test : (test : Bool) → p byte ≡ test → prefix_len p (byte ∷ back) ≡ 0 → p byte ≡ false
    by_test false t f = t
    by_test true t f = let more : prefix_len p (byte ∷ back) ≡ 1 + prefix_len p back = rw t refl in absurd (omega (arith, more))
run-ends p (first ∷ run) byte back e = by_test (p first) refl e (λ f. run-ends p run byte back f)
  where
    by_test : (test : Bool) → p first ≡ test → prefix_len p (first ∷ (run ++ byte ∷ back)) ≡ suc (length run) → (prefix_len p (run ++ byte ∷ back) ≡ length run → p byte ≡ false) → p byte ≡ false
    by_test false t f again = let none : prefix_len p (first ∷ (run ++ byte ∷ back)) ≡ 0 = rw t refl in absurd (omega (arith, none))
    by_test true t f again = let more : prefix_len p (first ∷ (run ++ byte ∷ back)) ≡ 1 + prefix_len p (run ++ byte ∷ back) = rw t refl in again (omega (arith, more))

-- a text that begins with a word is the word and more
pub starts-is : (word text : List ℕ) → starts_with ◌==◌ text word ≡ true → (more : List ℕ) × (text ≡ word ++ more)
starts-is [] text e = (text, refl)
starts-is (c ∷ word) [] e = absurd (true≢false (sym e))
starts-is (c ∷ word) (x ∷ text) e =
    let both = and_parts (c == x) (starts_with ◌==◌ text word) e in
    let first : (c == x) ≡ true = both.0 in
    let same : x ≡ c = grind (arith, nat_tests) in
    let found = starts-is word text both.1 in
    (found.0, ap (λ b. b ∷ text) same ∙ ap (λ t. c ∷ t) found.1)

-- a text that begins with a word does so with more behind it
starts-more : (word text back : List ℕ) → starts_with ◌==◌ text word ≡ true → starts_with ◌==◌ (text ++ back) word ≡ true
starts-more [] text back e = refl
starts-more (c ∷ word) [] back e = absurd (true≢false (sym e))
starts-more (c ∷ word) (x ∷ text) back e =
    let both = and_parts (c == x) (starts_with ◌==◌ text word) e in
    and_from (c == x) (starts_with ◌==◌ (text ++ back) word) both.0 (starts-more word text back both.1)

starts-less : (word text back : List ℕ) → starts_with ◌==◌ (text ++ back) word ≡ false → starts_with ◌==◌ text word ≡ false
starts-less word text back e = by_test (starts_with ◌==◌ text word) refl
  where
    by_test : (test : Bool) → starts_with ◌==◌ text word ≡ test → starts_with ◌==◌ text word ≡ false
    by_test false t = t
    by_test true t = absurd (true≢false (sym (starts-more word text back t) ∙ e))

pub reference-less : (text back : List ℕ) → begins_reference (text ++ back) ≡ false → begins_reference text ≡ false
reference-less text back e =
    let brace = or_parts (starts_with ◌==◌ (text ++ back) (codes "{")) (starts_with ◌==◌ (text ++ back) (codes "ENV{") || starts_with ◌==◌ (text ++ back) (codes "CACHE{")) e in
    let words = or_parts (starts_with ◌==◌ (text ++ back) (codes "ENV{")) (starts_with ◌==◌ (text ++ back) (codes "CACHE{")) brace.1 in
    or_from (starts_with ◌==◌ text (codes "{")) (starts_with ◌==◌ text (codes "ENV{") || starts_with ◌==◌ text (codes "CACHE{")) (starts-less (codes "{") text back brace.0)
    (or_from (starts_with ◌==◌ text (codes "ENV{")) (starts_with ◌==◌ text (codes "CACHE{")) (starts-less (codes "ENV{") text back words.0) (starts-less (codes "CACHE{") text back words.1))

broken-as : {kind : ArgKind} {text other : List ℕ} {fault : FaultKind} → other ≡ text → IsBrokenUnit kind other fault → IsBrokenUnit kind text fault
broken-as {kind} {text} {other} {fault} e b = subst (λ (t : List ℕ). IsBrokenUnit kind t fault) e b

reference-stops : (kind : ArgKind) (rest : List ℕ) (stop : Stop) → reference_at (36 ∷ 123 ∷ rest) ≡ Err stop → UnitStops kind (36 ∷ 123 ∷ rest) stop
reference-stops kind rest stop e = by_back run.back run.split (ap (λ k. reference_by (36 ∷ 123 ∷ rest) k) (sym run.size) ∙ e)
  where
    run : RunRead is_name rest
    run = run-of is_name rest

    whole : List ℕ
    whole = 36 ∷ 123 ∷ rest

    bad : IsBrokenUnit kind whole (fault_of BadReference) → refused {A = Part × ℕ} BadReference whole ≡ Err stop → UnitStops kind whole stop
    bad b f = unit_stops_as kind whole (At BadReference (length whole)) stop (same_stop (At BadReference (length whole)) stop (refused {A = Part × ℕ} BadReference whole) refl f) (refl, b)

    by_close : (byte : ℕ) (back : List ℕ) → rest ≡ run.run ++ byte ∷ back → (nat_lt 0 (length run.run) && stands 125 (length run.run + 2) whole) ≡ false → (test : Bool) → (byte == 125) ≡ test →
        IsBrokenUnit kind whole (fault_of BadReference)
    by_close byte back split unended false t =
        let other : is_name byte ≡ false = run-ends is_name run.run byte back (ap (λ r. prefix_len is_name r) (sym split) ∙ run.size) in
        broken-as (ap (λ r. 36 ∷ 123 ∷ r) (sym split)) (broken.no_brace run.run byte back run.all other t)
    by_close byte back split unended true t = by_run run.run refl
      where
        by_run : (name : List ℕ) → run.run ≡ name → IsBrokenUnit kind whole (fault_of BadReference)
        by_run [] r =
            let close : byte ≡ 125 = grind (arith, nat_tests) in
            broken-as (ap (λ r. 36 ∷ 123 ∷ r) (sym (split ∙ ap (λ n. n ++ byte ∷ back) r ∙ ap (λ b. b ∷ back) close))) (broken.no_name back)
        by_run (first ∷ name) r =
            let close : byte ≡ 125 = grind (arith, nat_tests) in
            let size : length run.run ≡ suc (length name) = ap (λ n. length n) r in
            let some : nat_lt 0 (length run.run) ≡ true = grind (arith, nat_tests, size) in
            let shift : length run.run + 2 ≡ suc (suc (length run.run)) = omega arith in
            let sizes : length rest ≡ length run.run + suc (length back) = ap (λ t. length t) split ∙ length-append run.run (byte ∷ back) in
            let seam : get_or whole (length run.run + 2) 0 ≡ 125 = ap (λ i. get_or whole i 0) shift ∙ ap (λ t. get_or t (length run.run) 0) split ∙ get_or-append_seam run.run byte back 0 ∙ close in
            let there : stands 125 (length run.run + 2) whole ≡ true = stands-at 125 (length run.run + 2) whole (omega (arith, sizes)) seam in
            absurd (true≢false (sym (and_from (nat_lt 0 (length run.run)) (stands 125 (length run.run + 2) whole) some there) ∙ unended))

    by_brace : (byte : ℕ) (back : List ℕ) → rest ≡ run.run ++ byte ∷ back → (test : Bool) → (nat_lt 0 (length run.run) && stands 125 (length run.run + 2) whole) ≡ test →
        cond test (read_of (Ref (take (length run.run) rest)) (length run.run + 3)) (refused BadReference whole) ≡ Err stop → UnitStops kind whole stop
    by_brace byte back split true t f = cc
    by_brace byte back split false t f = bad (by_close byte back split t (byte == 125) refl) f

    by_back : (back : List ℕ) → rest ≡ run.run ++ back → reference_by whole (length run.run) ≡ Err stop → UnitStops kind whole stop
    by_back [] split f =
        let all_name : rest ≡ run.run = split ∙ append-nil run.run in
        let size : length rest ≡ length run.run = ap (λ t. length t) all_name in
        let at_end : (length run.run + 2 == length whole) ≡ true = grind (arith, nat_tests) in
        let ended : reference_by whole (length run.run) ≡ Err Ended = rw at_end refl in
        let cut : IsCutUnit whole = subst (λ (r : List ℕ). IsCutUnit (36 ∷ 123 ∷ r)) (sym all_name) (broken.name run.run run.all) in
        unit_stops_as kind whole Ended stop (same_stop Ended stop (reference_by whole (length run.run)) ended f) cut
    by_back (byte ∷ back) split f =
        let sizes : length rest ≡ length run.run + suc (length back) = ap (λ t. length t) split ∙ length-append run.run (byte ∷ back) in
        let long : (length run.run + 2 == length whole) ≡ false = grind (arith, nat_tests, sizes) in
        by_brace byte back split (nat_lt 0 (length run.run) && stands 125 (length run.run + 2) whole) refl (sym (rw long refl) ∙ f)

dollar-stops : (kind : ArgKind) (rest : List ℕ) (stop : Stop) → dollar_at (36 ∷ rest) ≡ Err stop → UnitStops kind (36 ∷ rest) stop
dollar-stops kind rest stop e = by_brace (starts_with ◌==◌ rest (codes "{")) refl e
  where
    whole : List ℕ
    whole = 36 ∷ rest

    bad : IsBrokenUnit kind whole (fault_of BadReference) → refused {A = Part × ℕ} BadReference whole ≡ Err stop → UnitStops kind whole stop
    bad b f = unit_stops_as kind whole (At BadReference (length whole)) stop (same_stop (At BadReference (length whole)) stop (refused {A = Part × ℕ} BadReference whole) refl f) (refl, b)

    by_word : (env : Bool) → starts_with ◌==◌ rest (codes "ENV{") ≡ env → (cache : Bool) → starts_with ◌==◌ rest (codes "CACHE{") ≡ cache → (env || cache) ≡ true → IsBrokenUnit kind whole (fault_of BadReference)
    by_word true s cache t o = let found = starts-is (codes "ENV{") rest s in broken-as (ap (λ r. 36 ∷ r) (sym found.1)) (broken.environment found.0)
    by_word false s true t o = let found = starts-is (codes "CACHE{") rest t in broken-as (ap (λ r. 36 ∷ r) (sym found.1)) (broken.cache found.0)
    by_word false s false t o = absurd (true≢false (sym o))

    by_other : starts_with ◌==◌ rest (codes "{") ≡ false → (test : Bool) → begins_reference rest ≡ test → cond test (refused BadReference whole) (read_of (Bytes (36 ∷ [])) 1) ≡ Err stop → UnitStops kind whole stop
    by_other s false t f = cc
    by_other s true t f =
        let words : (starts_with ◌==◌ rest (codes "ENV{") || starts_with ◌==◌ rest (codes "CACHE{")) ≡ true = ap (λ b. b || (starts_with ◌==◌ rest (codes "ENV{") || starts_with ◌==◌ rest (codes "CACHE{"))) (sym s) ∙ t in
        bad (by_word (starts_with ◌==◌ rest (codes "ENV{")) refl (starts_with ◌==◌ rest (codes "CACHE{")) refl words) f

    by_brace : (test : Bool) → starts_with ◌==◌ rest (codes "{") ≡ test → cond test (reference_at whole) (cond (begins_reference rest) (refused BadReference whole) (read_of (Bytes (36 ∷ [])) 1)) ≡ Err stop → UnitStops kind whole stop
    by_brace true t f =
        let found = starts-is (codes "{") rest t in
        subst (λ (r : List ℕ). UnitStops kind (36 ∷ r) stop) (sym found.1) (reference-stops kind found.0 stop (ap (λ r. reference_at (36 ∷ r)) (sym found.1) ∙ f))
    by_brace false t f = by_other t (begins_reference rest) refl f

pub unit-stops : (kind : ArgKind) (byte : ℕ) (rest : List ℕ) (stop : Stop) → unit_at kind (byte ∷ rest) ≡ Err stop → UnitStops kind (byte ∷ rest) stop
unit-stops kind byte rest stop e = by_backslash (byte == 92) refl e
  where
    by_escaped : (next : ℕ) (more : List ℕ) → (found : Option Part) → escaped kind next ≡ found → escape_by (92 ∷ next ∷ more) found ≡ Err stop → UnitStops kind (92 ∷ next ∷ more) stop
    by_escaped next more (Some found) t f = cc
    by_escaped next more None t f =
        let size : ℕ = length (92 ∷ next ∷ more) in
        unit_stops_as kind (92 ∷ next ∷ more) (At BadEscape size) stop (same_stop (At BadEscape size) stop (escape_by (92 ∷ next ∷ more) None) refl f) (refl, broken.escape next more t)

    by_next : (text : List ℕ) → escape_at kind (92 ∷ text) ≡ Err stop → UnitStops kind (92 ∷ text) stop
    by_next [] f = unit_stops_as kind (92 ∷ []) Ended stop (same_stop Ended stop (escape_at kind (92 ∷ [])) refl f) broken.backslash
    by_next (next ∷ more) f = by_escaped next more (escaped kind next) refl f

    by_dollar : (test : Bool) → (byte == 36) ≡ test → cond test (dollar_at (byte ∷ rest)) (read_of (Bytes (byte ∷ [])) 1) ≡ Err stop → UnitStops kind (byte ∷ rest) stop
    by_dollar false t f = cc
    by_dollar true t f =
        let mark : byte ≡ 36 = grind (arith, nat_tests) in
        subst (λ (b : ℕ). UnitStops kind (b ∷ rest) stop) (sym mark) (dollar-stops kind rest stop (ap (λ b. dollar_at (b ∷ rest)) (sym mark) ∙ f))

    by_backslash : (test : Bool) → (byte == 92) ≡ test → cond test (escape_at kind (byte ∷ rest)) (cond (byte == 36) (dollar_at (byte ∷ rest)) (read_of (Bytes (byte ∷ [])) 1)) ≡ Err stop → UnitStops kind (byte ∷ rest) stop
    by_backslash true t f =
        let mark : byte ≡ 92 = grind (arith, nat_tests) in
        subst (λ (b : ℕ). UnitStops kind (b ∷ rest) stop) (sym mark) (by_next rest (ap (λ b. escape_at kind (b ∷ rest)) (sym mark) ∙ f))
    by_backslash false t f = by_dollar (byte == 36) refl f

-- the text of an argument up to where the reader stops
pub record TextStops (kind : ArgKind) (text : List ℕ) (stop : Stop) : Type 0 where
  pub front : List ℕ
  pub rest : List ℕ
  pub parts : List Part
  pub split : text ≡ front ++ rest
  pub written : IsText kind front parts
  pub stops : UnitStops kind rest stop

text-behind : {kind : ArgKind} {stop : Stop} (front text : List ℕ) → ((first rest : List ℕ) (parts : List Part) → text ≡ first ++ rest → IsText kind first parts → (more : List Part) × IsText kind (front ++ first) more) → TextStops kind text stop → TextStops kind (front ++ text) stop
text-behind front text goes t =
    let w = goes t.front t.rest t.parts t.split t.written in
    record { front = front ++ t.front; rest = t.rest; parts = w.0; split = behind-front front text t.front t.rest t.split; written = w.1; stops = t.stops }

text-unit : {kind : ArgKind} {text : List ℕ} {piece : Part} {n : ℕ} {stop : Stop} → IsUnitAt kind text piece n → ends_text kind (get_or text 0 0) ≡ false → TextStops kind (drop n text) stop → TextStops kind text stop
text-unit {kind} (plain byte rest a b) ends t =
    let fits : is_plain kind byte ≡ true = rw (ends, a, b) refl in
    text-behind (byte ∷ []) rest (λ first more parts e w. (_, grammar.plain byte fits w)) t
text-unit (escape byte rest piece e) ends t = text-behind (92 ∷ byte ∷ []) rest (λ first more parts s w. (_, grammar.escape byte piece e w)) t
text-unit {kind} {stop = stop} (reference name rest v) ends t =
    let left : TextStops kind rest stop = subst (λ (r : List ℕ). TextStops kind r stop) (behind-reference name rest) t in
    let mark : List ℕ = 36 ∷ 123 ∷ (name ++ 125 ∷ []) in
    let one : (first : List ℕ) → 36 ∷ 123 ∷ (name ++ 125 ∷ first) ≡ mark ++ first = λ first. ap (λ t. 36 ∷ 123 ∷ t) (sym (append_assoc name (125 ∷ []) first)) in
    subst (λ (r : List ℕ). TextStops kind r stop) (sym (one rest))
    (text-behind mark rest (λ first more parts s w. (Ref name ∷ parts, subst (λ (r : List ℕ). IsText kind r (Ref name ∷ parts)) (one first) (grammar.reference name v w))) left)
text-unit (dollar rest e) ends t =
    text-behind (36 ∷ []) rest (λ first more parts s w. (_, grammar.dollar (reference-less first more (ap (λ r. begins_reference r) (sym s) ∙ e)) w)) t

-- what stands behind a unit stops where the whole stops
piece_before-err : (piece : Part) (n : ℕ) (stop : Stop) (read : Result (List Part × ℕ) Stop) → piece_before piece (moved n read) ≡ Err stop → read ≡ Err stop
piece_before-err piece n stop (Ok x) e = cc
piece_before-err piece n stop (Err other) e = e

pub text-stops : (fuel : ℕ) (kind : ArgKind) (text : List ℕ) (stop : Stop) → length text < fuel → text_from kind 0 text ≡ Err stop → TextStops kind text stop
text-stops zero kind text stop fits e = absurd (omega arith)
text-stops (suc fuel) kind [] stop fits e =
    record { front = []; rest = []; parts = []; split = refl; written = grammar.nothing; stops = unit_stops_as kind [] Ended stop (same_stop Ended stop (text_from kind 0 []) refl e) broken.nothing }
text-stops (suc fuel) kind (byte ∷ rest) stop fits e = by_end (ends_text kind byte) refl (unit_at kind (byte ∷ rest)) refl (λ k some less f. text-stops fuel kind (drop k (byte ∷ rest)) stop (less_more k some less) f) e
  where
    less_more : (k : ℕ) → 0 < k → length (drop k (byte ∷ rest)) < suc (length rest) → length (drop k (byte ∷ rest)) < fuel
    less_more k some less = omega arith

    by_end : (test : Bool) → ends_text kind byte ≡ test → (found : Result (Part × ℕ) Stop) → unit_at kind (byte ∷ rest) ≡ found →
        ((k : ℕ) → 0 < k → length (drop k (byte ∷ rest)) < suc (length rest) → text_from kind 0 (drop k (byte ∷ rest)) ≡ Err stop → TextStops kind (drop k (byte ∷ rest)) stop) →
        text_from kind 0 (byte ∷ rest) ≡ Err stop → TextStops kind (byte ∷ rest) stop
    by_end true t found u again f =
        let none : text_from kind 0 (byte ∷ rest) ≡ Ok ([], 0) = rw t refl in cc
    by_end false t (Err other) u again f =
        let none : text_from kind 0 (byte ∷ rest) ≡ Err other = rw (t, u) refl in
        let stops = unit-stops kind byte rest other u in
        record { front = []; rest = byte ∷ rest; parts = []; split = refl; written = grammar.nothing; stops = unit_stops_as kind (byte ∷ rest) other stop (same_stop other stop (text_from kind 0 (byte ∷ rest)) none f) stops }
    by_end false t (Ok unit) u again f =
        let is = unit-is kind byte rest unit.0 unit.1 u in
        let some : 0 < unit.1 = unit-some is in
        let step = text_from-step kind (byte ∷ rest) unit.0 unit.1 some t u in
        text-unit is t (again unit.1 some (omega (arith, length-drop unit.1 (byte ∷ rest))) (piece_before-err unit.0 unit.1 stop (text_from kind 0 (drop unit.1 (byte ∷ rest))) (sym step ∙ f)))
