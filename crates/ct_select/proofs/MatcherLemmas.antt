-- A matcher that has tried a text keeps its pattern, and so do all others of its list.
use Rattle.std.proofs.Common.{◌≡◌, ◌<◌, ◌&&◌, ℕ, zero, suc, ◌+◌, Bool, true, List, [], ◌∷◌, length, drop, get_or, set, map, refl, sym, ap, ◌∙◌, arith}
use Rattle.std.proofs.lemmas.List.{drop_more, drop-set-lt}
use Rattle.ct_regex.specs.declared.pattern.Regex.{Regex}
use Rattle.ct_regex.specs.declared.matcher.Matcher.{Matcher}
use Rattle.ct_regex.specs.PatternOf.{pattern_of}
use Rattle.ct_select.specs.Chosen.{hits_label, hit_labels}

-- the list with the matcher put back has the same patterns
pub put_back : (ms : List Matcher) (i : ℕ) (m d : Matcher) → pattern_of m ≡ pattern_of (get_or ms i d) → i < length ms → map pattern_of (set ms i m) ≡ map pattern_of ms
put_back [] i m d same within = refl
put_back (x ∷ ms) zero m d same within = ap (λ (p : Regex). p ∷ map pattern_of ms) same
put_back (x ∷ ms) (suc i) m d same within = ap (λ (ps : List Regex). pattern_of x ∷ ps) (put_back ms i m d same (omega (arith, within)))

-- where a pattern hits some label, the patterns behind it decide
pub others_decide : (labels : List (List ℕ)) (ms : List Matcher) (i : ℕ) (m d : Matcher) → hits_label labels (pattern_of (get_or ms i d)) ≡ true → i < length ms →
    hit_labels (map pattern_of (drop (i + 1) (set ms i m))) labels ≡ hit_labels (map pattern_of (drop i ms)) labels
others_decide labels ms i m d hit within =
    ap (λ (rest : List Matcher). hit_labels (map pattern_of rest) labels) (drop-set-lt (i + 1) ms i m (omega arith))
    ∙ sym (ap (λ (b : Bool). b && hit_labels (map pattern_of (drop (i + 1) ms)) labels) hit)
    ∙ sym (ap (λ (rest : List Matcher). hit_labels (map pattern_of rest) labels) (drop_more ms i d within))
