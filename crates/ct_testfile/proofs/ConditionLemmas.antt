-- Conditions: what is asked of a pattern, and of the innermost open `if`.
use Rattle.std.proofs.Common.{◌≡◌, ℕ, ◌<◌, ◌≤◌, true, false, cond, codes, is_some, List, [], ◌∷◌, length, get_or, Option, Some, None, Result, Ok, Err, ap, sym, refl, ◌∙◌, arith}
use Rattle.std.proofs.lemmas.Bool.{false≢true}
use Rattle.ct_base.specs.Outside.{Held}
use Rattle.ct_base.specs.Path.{joined}
use Rattle.ct_regex.specs.Reading as pattern
use Rattle.ct_suite.specs.Values.{Variable}
use Rattle.ct_suite.specs.declared.value.Value.{Value}
use Rattle.ct_testfile.specs.declared.fault.ReadKind.TheVariants.{BadCondition}
use Rattle.ct_regex.specs.Tree.{Tree}
use Rattle.ct_regex.specs.Gives.{SaysFault}
use Rattle.ct_regex.specs.declared.fault.RegexFault.{RegexFault}
use Rattle.ct_regex.specs.declared.fault.RegexFault.TheVariants.{OpenGroup, StrayClose, OpenSet, BadRange, NothingToRepeat, EmptyRepeat, NestedRepeat, EndsInBackslash, TooLarge, NoMemory}
use Rattle.ct_testfile.specs.Says.{Follows}
use Rattle.ct_testfile.specs.Condition.{matched, bad_pattern, is_bare_word, is_exists, is_matches, holds, subject}
use Rattle.ct_testfile.specs.Ifs.{is_live, is_taken, innermost}
use Rattle.std.specs.Option.{option_map_or}
use Rattle.ct_testfile.specs.declared.branch.OpenIf.{OpenIf}

-- a pattern that is refused
pub matched-refused : (text : List ℕ) (says : Result Tree RegexFault) (fault : RegexFault) → SaysFault says fault → Follows (Err (bad_pattern fault)) (matched text says)
matched-refused text says (OpenGroup place) is = ap (matched text) is
matched-refused text says (StrayClose place) is = ap (matched text) is
matched-refused text says (OpenSet place) is = ap (matched text) is
matched-refused text says (BadRange place) is = ap (matched text) is
matched-refused text says (NothingToRepeat place) is = ap (matched text) is
matched-refused text says (EmptyRepeat place) is = ap (matched text) is
matched-refused text says (NestedRepeat place) is = ap (matched text) is
matched-refused text says (EndsInBackslash place) is = ap (matched text) is
matched-refused text says (TooLarge place) is = ap (matched text) is
matched-refused text says NoMemory is = tt

-- the innermost `if` alone says whether commands are carried out
pub is_live-inner : (ifs : List OpenIf) (inner : OpenIf) → 0 < length ifs → inner ≡ get_or ifs 0 inner → is_live ifs ≡ is_taken inner.branch
is_live-inner [] inner some is = absurd (omega arith)
is_live-inner (first ∷ ifs) inner some is = ap (λ (open_if : OpenIf). is_taken open_if.branch) (sym is)

pub is_live-none : (ifs : List OpenIf) → length ifs ≤ 0 → is_live ifs ≡ true
is_live-none [] none = refl
is_live-none (first ∷ ifs) none = absurd (omega arith)

-- values that are not two are no `EXISTS`, and the first of two decides;
-- then: values that are not three are no `MATCHES`, and the second of three decides
pub not-exists : (values : List Value) → (length values ≡ 2 → ⊥) → false ≡ is_exists values
not-exists [] other = refl
not-exists (word ∷ []) other = refl
not-exists (word ∷ path ∷ []) other = absurd (other refl)
not-exists (word ∷ path ∷ next ∷ values) other = refl

pub exists-is : (values : List Value) (word : Value) → length values ≡ 2 → word ≡ get_or values 0 word → is_bare_word (codes "EXISTS") word ≡ is_exists values
exists-is [] word two is = cc
exists-is (first ∷ []) word two is = absurd (omega arith)
exists-is (first ∷ path ∷ []) word two is = ap (is_bare_word (codes "EXISTS")) is
exists-is (first ∷ path ∷ next ∷ values) word two is = absurd (omega arith)

pub not-matches : (values : List Value) → (length values ≡ 3 → ⊥) → false ≡ is_matches values
not-matches [] other = refl
not-matches (left ∷ []) other = refl
not-matches (left ∷ word ∷ []) other = refl
not-matches (left ∷ word ∷ right ∷ []) other = absurd (other refl)
not-matches (left ∷ word ∷ right ∷ next ∷ values) other = refl

pub matches-is : (values : List Value) (word : Value) → length values ≡ 3 → word ≡ get_or values 1 word → is_bare_word (codes "MATCHES") word ≡ is_matches values
matches-is [] word three is = cc
matches-is (left ∷ []) word three is = absurd (omega arith)
matches-is (left ∷ first ∷ []) word three is = absurd (omega arith)
matches-is (left ∷ first ∷ right ∷ []) word three is = ap (is_bare_word (codes "MATCHES")) is
matches-is (left ∷ first ∷ right ∷ next ∷ values) word three is = absurd (omega arith)

-- whether the condition in these values holds
module _ (held : Held) (dir : List ℕ) (variables : List Variable) where
  pub holds-exists : (values : List Value) (path : Value) → is_exists values ≡ true → path ≡ get_or values 1 path → holds held dir variables values ≡ Ok (is_some (held (joined dir path.text)))
  holds-exists [] path is at = absurd (false≢true is)
  holds-exists (word ∷ []) path is at = absurd (false≢true is)
  holds-exists (word ∷ other ∷ []) path is at =
      (λ i. cond (is i) (Ok (is_some (held (joined dir other.text)))) (Err BadCondition)) ∙ ap (λ (p : Value). Ok (is_some (held (joined dir p.text)))) (sym at)
  holds-exists (word ∷ other ∷ next ∷ values) path is at = absurd (false≢true is)

  pub holds-matches : (values : List Value) (left right : Value) → is_matches values ≡ true → left ≡ get_or values 0 left → right ≡ get_or values 2 right → holds held dir variables values ≡ matched (subject variables left) (pattern.reading right.text)
  holds-matches [] left right is at_left at_right = absurd (false≢true is)
  holds-matches (first ∷ []) left right is at_left at_right = absurd (false≢true is)
  holds-matches (first ∷ word ∷ []) left right is at_left at_right = absurd (false≢true is)
  holds-matches (first ∷ word ∷ last ∷ []) left right is at_left at_right =
      (λ i. cond (is i) (matched (subject variables first) (pattern.reading last.text)) (Err BadCondition))
      ∙ (λ i. matched (subject variables (sym at_left i)) (pattern.reading (sym at_right i).text))
  holds-matches (first ∷ word ∷ last ∷ next ∷ values) left right is at_left at_right = absurd (false≢true is)

  pub holds-neither : (values : List Value) → is_exists values ≡ false → is_matches values ≡ false → holds held dir variables values ≡ Err BadCondition
  holds-neither [] one other = refl
  holds-neither (word ∷ []) one other = refl
  holds-neither (word ∷ path ∷ []) one other =
      λ i. cond (one i) (Ok (is_some (held (joined dir path.text)))) (Err BadCondition)
  holds-neither (left ∷ word ∷ right ∷ []) one other =
      λ i. cond (other i) (matched (subject variables left) (pattern.reading right.text)) (Err BadCondition)
  holds-neither (left ∷ word ∷ right ∷ next ∷ values) one other = refl

pub innermost-none : (ifs : List OpenIf) → innermost ifs ≡ None → ifs ≡ []
innermost-none [] is = refl
innermost-none (inner ∷ outer) is = cc

pub innermost-some : (ifs outer : List OpenIf) (inner : OpenIf) → innermost ifs ≡ Some (inner, outer) → ifs ≡ inner ∷ outer
innermost-some [] outer inner is = cc
innermost-some (first ∷ rest) outer inner is =
    let list_of : Option (OpenIf × List OpenIf) → List OpenIf = λ o. option_map_or (λ p. p.0 ∷ p.1) o [] in ap list_of is
