use Rattle.std.proofs.Common.{◌≡◌, ◌≤◌, ◌+◌, ◌==◌, ◌&&◌, ℕ, false, not, List, [], ◌∷◌, ◌++◌, drop, length, get_or, cond, nat_lt, refl, sym, ◌∙◌, ap, subst, arith}
use Rattle.std.proofs.lemmas.Bool.{le-ltb}
use Rattle.std.proofs.lemmas.List.{take_rest}
use Rattle.ct_regex.specs.declared.tree.Span.{Span}
use Rattle.ct_regex.specs.Signs.{set_signs, begins_negated, is_range, item_high, is_none}
use Rattle.ct_regex.proofs.SignsLemmas.{set_first, set_next}
use Rattle.ct_regex.proofs.set.set_at.Goals as goal

pub items-init : goal.items-init
items-init c =
    let negated : c.is_negated-negated.result ≡ begins_negated (drop (c.args.opened + 1) c.args.text.now) =
    c.is_negated-negated.ensures ∙ ap begins_negated (take_rest c.args.text.now (c.args.opened + 1)) in
    let first = set_first c.args.text.now c.args.opened c.is_negated-negated.result c.requires.within c.requires.opens negated in
    let n : cond c.is_negated-negated.result 2 1 ≡ c.first_item.result = sym c.first_item.ensures.value in
    record {
      grows = omega arith;
      within = subst (λ (n : ℕ). c.args.opened + n ≤ length c.args.text.now) n first.1;
      same = first.0
          ∙ ap (λ (n : ℕ). set_signs c.args.opened c.is_negated-negated.result 0 (c.args.opened + n) [] (drop (c.args.opened + n) c.args.text.now)) n
          ∙ ap (λ (items : List Span). set_signs c.args.opened c.is_negated-negated.result 0 (c.args.opened + c.first_item.result) items (drop (c.args.opened + c.first_item.result) c.args.text.now)) (sym c.new-items.ensures.items);
    }

pub items-preserved : goal.items-preserved
items-preserved c =
    let rest = take_rest c.args.text.now (c.items.at + 1) in
    let low : ℕ = get_or c.args.text.now c.items.at 0 in
    let high : c.high_of-high.result ≡ item_high low (drop (c.items.at + 1) c.args.text.now) = c.high_of-high.ensures ∙ ap (item_high low) rest in
    let unclosed : ((low == 93) && not (is_none c.items.items.items)) ≡ false =
    ap (λ (items : List Span). (low == 93) && not (is_none items)) (sym c.deref.ensures.value) ∙ sym c.ends_set.ensures ∙ c.if-ends_set.false in
    let good : nat_lt (item_high low (drop (c.items.at + 1) c.args.text.now)) low ≡ false =
    ap (λ (h : ℕ). nat_lt h low) (sym high) ∙ le-ltb c.high_of-high.result low c.if-high-low.false in
    let next = set_next c.args.text.now c.args.opened c.is_negated-negated.result c.items.at c.items.items.items low c.items-test.true refl unclosed good in
    let n : cond (is_range (drop (c.items.at + 1) c.args.text.now)) 3 1 ≡ c.item_len-at.result =
    ap (λ (xs : List ℕ). cond (is_range xs) 3 1) (sym rest) ∙ sym c.item_len-at.ensures.value in
    let items : c.items.items.items ++ record { low = low; high = item_high low (drop (c.items.at + 1) c.args.text.now) } ∷ [] ≡ c.in_ok-items.items.items =
    ap (λ (h : ℕ). c.items.items.items ++ record { low = low; high = h } ∷ []) (sym high) ∙ sym c.in_ok-items.ensures in
    record {
      grows = omega arith;
      within = subst (λ (n : ℕ). c.items.at + n ≤ length c.args.text.now) n next.1;
      same = c.items.invariant.same ∙ next.0
          ∙ ap (λ (xs : List Span). set_signs c.args.opened c.is_negated-negated.result 0 (c.items.at + cond (is_range (drop (c.items.at + 1) c.args.text.now)) 3 1) xs (drop (c.items.at + cond (is_range (drop (c.items.at + 1) c.args.text.now)) 3 1) c.args.text.now)) items
          ∙ ap (λ (n : ℕ). set_signs c.args.opened c.is_negated-negated.result 0 (c.items.at + n) c.in_ok-items.items.items (drop (c.items.at + n) c.args.text.now)) n;
    }
