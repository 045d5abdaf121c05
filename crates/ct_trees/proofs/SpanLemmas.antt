-- The parts of a history by the spans of the trees, one entry more at a time.
use Rattle.std.proofs.Common.{◌≡◌, ◌≢◌, ◌∙◌, sym, ap, subst, refl, Bool, true, false, ℕ, zero, suc, ◌+◌, ◌^◌, ◌<◌, ◌≤◌, List, [], ◌∷◌, ◌++◌, length, map, get_or, set, take, drop, inl, inr, arith}
use Rattle.std.specs.Prelude.{Option, Some, None, ◌&&◌, ◌⊎◌, if◌then◌else◌, nat_le, nat_lt}
use Rattle.std.specs.List.{cons_option}
use Rattle.std.specs.List.Sorted.{IsNonDecreasingBy}
use Rattle.std.proofs.lemmas.Bool.{cases_lt, le-ltb, lt-leb, ltb-false, ltb-true}
use Rattle.std.proofs.Math.Bool.{and-false}
use Rattle.std.proofs.lemmas.List.{append-nil, append_assoc, drop_all, get_or-map, length-map, map-append, map-set, take_all, take_more}
use Rattle.std.proofs.lemmas.List.Elements.{filter_map-append}
use Rattle.ct_history.specs.declared.history.Entry.{Entry}
use Rattle.ct_history.specs.declared.history.Entry.TheVariants.{Start, End, Settle, Stop}
use Rattle.ct_history.specs.declared.history.History.{History}
use Rattle.ct_history.specs.Parts.{entry_of_part, is_in_tree, part_of}
use Rattle.ct_plan.proofs.WholeLemmas.{trees_from}
use Rattle.ct_trees.specs.declared.joining.TreeRest.{TreeRest}
use Rattle.ct_trees.specs.declared.tree_parts.Span.{Span}
use Rattle.ct_trees.specs.Joining.{defined_by}
use Rattle.ct_trees.specs.Spans.{FollowFrom, IsSpanPlace, last_of_span, parts_in, spans_behind, test_in_entry}
use Rattle.ct_trees.specs.TreeParts.{entries_of_each, parts_behind}

-- the parts by the spans of trees are those of the trees
parts_of_spans : (offset : ℕ) (trees : List TreeRest) (entries : List Entry) → parts_in (spans_behind offset trees) entries ≡ parts_behind offset trees entries
parts_of_spans offset [] entries = refl
parts_of_spans offset (tree ∷ trees) entries = ap (λ (parts : List (List Entry)). part_of offset tree.defined entries ∷ parts) (parts_of_spans (offset + tree.defined) trees entries)

spans_follow : (offset : ℕ) (trees : List TreeRest) → FollowFrom offset (spans_behind offset trees)
spans_follow offset [] = tt
spans_follow offset (tree ∷ trees) = (refl, spans_follow (offset + tree.defined) trees)

-- spans of trees follow each other
pub tree_spans : (trees : List TreeRest) (spans : List Span) → spans ≡ spans_behind 0 trees → FollowFrom 0 spans
tree_spans trees spans are = subst (λ (ss : List Span). FollowFrom 0 ss) (sym are) (spans_follow 0 trees)

-- the parts of no entry
pub no_entries : (spans : List Span) (entries : List Entry) (parts : List History) → entries_of_each parts ≡ parts_in spans [] → entries_of_each parts ≡ parts_in spans (take 0 entries)
no_entries spans entries parts none = none

-- the parts of all entries
pub tree_parts : (trees : List TreeRest) (spans : List Span) (entries all : List Entry) (at : ℕ) (parts : List History) → spans ≡ spans_behind 0 trees → entries ≡ all → entries_of_each parts ≡ parts_in spans (take at entries) → length entries ≤ at → entries_of_each parts ≡ parts_behind 0 trees all
tree_parts trees spans entries all at parts are same so_far none =
    so_far
    ∙ ap (λ (es : List Entry). parts_in spans es) (take_all at entries none ∙ same)
    ∙ ap (λ (ss : List Span). parts_in ss all) are
    ∙ parts_of_spans 0 trees all

-- the spans of trees, listed so far
pub record AreSpansSoFar (trees : List TreeRest) (at offset : ℕ) (spans : List Span) : Type 0 where
  pub split : spans ++ spans_behind offset (drop at trees) ≡ spans_behind 0 trees
  pub counted : offset + defined_by (drop at trees) ≡ defined_by trees

-- a span begins where the first one does, or behind it
begins_behind : (offset : ℕ) (spans : List Span) (at : ℕ) (d : Span) → FollowFrom offset spans → at < length spans → offset ≤ (get_or spans at d).offset
begins_behind offset [] at d follow within = absurd (omega (arith, within))
begins_behind offset (span ∷ spans) zero d follow within = let is = follow.0 in omega (arith, is)
begins_behind offset (span ∷ spans) (suc at) d follow within =
    let is = follow.0 in
    let behind = begins_behind (last_of_span span) spans at d follow.1 (omega (arith, within)) in
    omega (arith, is, behind)

-- a span begins behind the end of each one in front of it
ends_ahead : (offset : ℕ) (spans : List Span) (one other : ℕ) (d : Span) → FollowFrom offset spans → one < other → other < length spans → last_of_span (get_or spans one d) ≤ (get_or spans other d).offset
ends_ahead offset [] one other d follow before within = absurd (omega (arith, within))
ends_ahead offset (span ∷ spans) one zero d follow before within = absurd (omega (arith, before))
ends_ahead offset (span ∷ spans) zero (suc other) d follow before within = begins_behind (last_of_span span) spans other d follow.1 (omega (arith, within))
ends_ahead offset (span ∷ spans) (suc one) (suc other) d follow before within = ends_ahead (last_of_span span) spans one other d follow.1 (omega (arith, before)) (omega (arith, within))

-- the ends of spans do not fall
pub ends_rise : (offset : ℕ) (spans : List Span) → FollowFrom offset spans → IsNonDecreasingBy last_of_span spans
ends_rise offset spans follow i j d le within = by_order (cases_lt i j)
  where
    by_order : (i < j) ⊎ (j ≤ i) → last_of_span (get_or spans i d) ≤ last_of_span (get_or spans j d)
    by_order (inl before) = let ahead = ends_ahead offset spans i j d follow before within in omega (arith, ahead)
    by_order (inr same) = let is : i ≡ j = omega (arith, le, same) in omega (arith, ap (λ n. last_of_span (get_or spans n d)) is)

unless_in : {A : Type 0} (is : Bool) (entry : A) → is ≡ false → (if is then Some entry else None) ≡ None
unless_in false entry no_one = refl
unless_in true entry no_one = cc

-- an entry of no test of a span is not of its part
not_own : (entry : Entry) (span : Span) → is_in_tree span.offset span.count (test_in_entry entry) ≡ false → entry_of_part span.offset span.count entry ≡ None
not_own (Start test attempt worker placement) span out = unless_in (is_in_tree span.offset span.count test) _ out
not_own (End test attempt worker seen) span out = unless_in (is_in_tree span.offset span.count test) _ out
not_own (Settle test cause) span out = unless_in (is_in_tree span.offset span.count test) _ out
not_own Stop span out = refl

out_behind : (span : Span) (test : ℕ) → last_of_span span < test → is_in_tree span.offset span.count test ≡ false
out_behind span test past = ap (λ (b : Bool). nat_lt span.offset test && b) (lt-leb test (last_of_span span) past) ∙ and-false (nat_lt span.offset test)

out_before : (span : Span) (test : ℕ) → test ≤ span.offset → is_in_tree span.offset span.count test ≡ false
out_before span test short = ap (λ (b : Bool). b && nat_le test (span.offset + span.count)) (le-ltb span.offset test short)

-- an entry is of no span but that at the place of its test
not_elsewhere : (offset : ℕ) (spans : List Span) (entry : Entry) (place : ℕ) (d : Span) → FollowFrom offset spans → IsSpanPlace (test_in_entry entry) spans place → (at : ℕ) → at < length spans → at ≢ place → entry_of_part (get_or spans at d).offset (get_or spans at d).count entry ≡ None
not_elsewhere offset spans entry place d follow here at within apart = not_own entry (get_or spans at d) (by_order (cases_lt at place))
  where
    by_order : (at < place) ⊎ (place ≤ at) → is_in_tree (get_or spans at d).offset (get_or spans at d).count (test_in_entry entry) ≡ false
    by_order (inl before) =
        let ends = ltb-true (last_of_span (get_or spans at d)) (test_in_entry entry) (here.0 at d (omega arith) before) in
        out_behind (get_or spans at d) (test_in_entry entry) ends
    by_order (inr behind) =
        let past : place < at = omega (arith, behind, apart) in
        let ends = ltb-false (last_of_span (get_or spans place d)) (test_in_entry entry) (here.1 place d (omega arith) (omega (arith, past, within))) in
        let ahead = ends_ahead offset spans place at d follow past within in
        out_before (get_or spans at d) (test_in_entry entry) (omega (arith, ends, ahead))

-- lists that agree but at one place are one list once that place is set
module _ {A B : Type 0} (f g : A → B) (d : A) where
  pub all_agree : (xs : List A) → ((k : ℕ) → k < length xs → f (get_or xs k d) ≡ g (get_or xs k d)) → map f xs ≡ map g xs
  all_agree [] same = refl
  all_agree (x ∷ xs) same =
      ap (λ (y : B). y ∷ map f xs) (same 0 (omega arith))
      ∙ ap (λ (ys : List B). g x ∷ ys) (all_agree xs (λ k within. same (suc k) (omega (arith, within))))

  pub set_agrees : (xs : List A) (place : ℕ) (y : B) → place < length xs → y ≡ g (get_or xs place d) → ((k : ℕ) → k < length xs → k ≢ place → f (get_or xs k d) ≡ g (get_or xs k d)) → set (map f xs) place y ≡ map g xs
  set_agrees [] place y within is same = absurd (omega (arith, within))
  set_agrees (x ∷ xs) zero y within is same =
      ap (λ (z : B). z ∷ map f xs) is
      ∙ ap (λ (ys : List B). g x ∷ ys) (all_agree xs (λ k inside. same (suc k) (omega (arith, inside)) (λ e. omega (arith, e))))
  set_agrees (x ∷ xs) (suc place) y within is same =
      ap (λ (z : B). z ∷ set (map f xs) place y) (same 0 (omega arith) (λ e. omega (arith, e)))
      ∙ ap (λ (ys : List B). g x ∷ ys) (set_agrees xs place y (omega (arith, within)) is (λ k inside apart. same (suc k) (omega (arith, inside)) (λ e. apart (omega (arith, e)))))

-- one entry more, which has its place among the spans
module _ (spans : List Span) (place : ℕ) (entry : Entry) (entries : List Entry) (at : ℕ) (follow : FollowFrom 0 spans) (here : IsSpanPlace (test_in_entry entry) spans place) (within : at < length entries) (is : entry ≡ get_or entries at entry) where
  next_part : (offset count : ℕ) → part_of offset count (take at entries) ++ cons_option (entry_of_part offset count entry) [] ≡ part_of offset count (take (at + 1) entries)
  next_part offset count =
      sym (filter_map-append (entry_of_part offset count) (take at entries) (entry ∷ []))
      ∙ ap (λ (e : Entry). part_of offset count (take at entries ++ e ∷ [])) is
      ∙ ap (λ (es : List Entry). part_of offset count es) (sym (take_more entries at entry within))

  same_part : (span : Span) → entry_of_part span.offset span.count entry ≡ None → part_of span.offset span.count (take at entries) ≡ part_of span.offset span.count (take (at + 1) entries)
  same_part span none =
      sym (append-nil (part_of span.offset span.count (take at entries)))
      ∙ ap (λ (own : Option Entry). part_of span.offset span.count (take at entries) ++ cons_option own []) (sym none)
      ∙ next_part span.offset span.count

  elsewhere : (d : Span) (k : ℕ) → k < length spans → k ≢ place → part_of (get_or spans k d).offset (get_or spans k d).count (take at entries) ≡ part_of (get_or spans k d).offset (get_or spans k d).count (take (at + 1) entries)
  elsewhere d k inside apart = same_part (get_or spans k d) (not_elsewhere 0 spans entry place d follow here k inside apart)

  -- no span is at the place
  pub no_span : length spans ≤ place → parts_in spans (take at entries) ≡ parts_in spans (take (at + 1) entries)
  no_span past =
      let d : Span = record { offset = 0; count = 0 } in
      all_agree (λ (span : Span). part_of span.offset span.count (take at entries)) (λ (span : Span). part_of span.offset span.count (take (at + 1) entries)) d spans
      (λ k inside. elsewhere d k inside (λ e. omega (arith, past, inside, e)))

  module _ (span : Span) (there : place < length spans) (span_is : span ≡ get_or spans place span) where
    own_put : (own : Option Entry) → own ≡ entry_of_part span.offset span.count entry → set (parts_in spans (take at entries)) place (get_or (parts_in spans (take at entries)) place [] ++ cons_option own []) ≡ parts_in spans (take (at + 1) entries)
    own_put own own_is =
        set_agrees (λ (s : Span). part_of s.offset s.count (take at entries)) (λ (s : Span). part_of s.offset s.count (take (at + 1) entries)) span spans place
        (get_or (parts_in spans (take at entries)) place [] ++ cons_option own []) there
        (ap (λ (part : List Entry). part ++ cons_option own []) (get_or-map (λ (s : Span). part_of s.offset s.count (take at entries)) spans place span [] there ∙ ap (λ (s : Span). part_of s.offset s.count (take at entries)) (sym span_is))
        ∙ ap (λ (o : Option Entry). part_of span.offset span.count (take at entries) ++ cons_option o []) own_is
        ∙ next_part span.offset span.count
        ∙ ap (λ (s : Span). part_of s.offset s.count (take (at + 1) entries)) span_is)
        (λ k inside apart. elsewhere span k inside apart)

    -- the entry, if it is of the span at the place, is put to its part
    pub put_there : (parts : List History) (old new : History) (own : Option Entry) → entries_of_each parts ≡ parts_in spans (take at entries) → place < length parts → old ≡ get_or parts place old → new.entries.items ≡ old.entries.items ++ cons_option own [] → own ≡ entry_of_part span.offset span.count entry → entries_of_each (set parts place new) ≡ parts_in spans (take (at + 1) entries)
    put_there parts old new own earlier inside old_is more own_is =
        map-set (λ (history : History). history.entries.items) parts place new
        ∙ ap (λ (part : List Entry). set (entries_of_each parts) place part)
        (more ∙ ap (λ (part : List Entry). part ++ cons_option own []) (ap (λ (history : History). history.entries.items) old_is ∙ sym (get_or-map (λ (history : History). history.entries.items) parts place old [] inside)))
        ∙ ap (λ (ps : List (List Entry)). set ps place (get_or ps place [] ++ cons_option own [])) earlier
        ∙ own_put own own_is

-- there are as many parts as spans
pub as_many : (spans : List Span) (parts : List History) (entries : List Entry) → entries_of_each parts ≡ parts_in spans entries → length parts ≡ length spans
as_many spans parts entries are =
    sym (length-map parts (λ (history : History). history.entries.items))
    ∙ ap (λ (ps : List (List Entry)). length ps) are
    ∙ length-map spans (λ (span : Span). part_of span.offset span.count entries)

-- no span is listed
pub no_spans : (trees : List TreeRest) → AreSpansSoFar trees 0 0 []
no_spans trees = record { split = refl; counted = omega arith }

module _ (trees : List TreeRest) (at offset : ℕ) (spans : List Span) (so_far : AreSpansSoFar trees at offset spans) where
  -- the spans of all trees are listed
  pub spans_done : length trees ≤ at → spans ≡ spans_behind 0 trees
  spans_done none =
      sym (append-nil spans)
      ∙ ap (λ (ts : List TreeRest). spans ++ spans_behind offset ts) (sym (drop_all at trees none))
      ∙ so_far.split

  module _ (tree : TreeRest) (within : at < length trees) (is : tree ≡ get_or trees at tree) where
    counted_next : offset + (tree.defined + defined_by (drop (at + 1) trees)) ≡ defined_by trees
    counted_next = ap (λ (ts : List TreeRest). offset + defined_by ts) (sym (trees_from trees at tree within is)) ∙ so_far.counted

    -- the tests of the next tree are some of all
    pub span_fits : defined_by trees < 2 ^ 32 → offset + tree.defined < 2 ^ 32
    span_fits few = let counted = counted_next in omega (arith, counted, few)

    -- the span of the next tree is listed
    pub span_more : AreSpansSoFar trees (at + 1) (offset + tree.defined) (spans ++ (record { offset = offset; count = tree.defined }) ∷ [])
    span_more = record {
      split =
          append_assoc spans ((record { offset = offset; count = tree.defined }) ∷ []) (spans_behind (offset + tree.defined) (drop (at + 1) trees))
          ∙ ap (λ (ts : List TreeRest). spans ++ spans_behind offset ts) (sym (trees_from trees at tree within is))
          ∙ so_far.split;
      counted = let counted = counted_next in omega (arith, counted);
    }

-- one more empty part
pub empty_more : (spans : List Span) (at : ℕ) (parts : List History) (new : History) → entries_of_each parts ≡ parts_in (take at spans) [] → at < length spans → new.entries.items ≡ [] → entries_of_each (parts ++ new ∷ []) ≡ parts_in (take (at + 1) spans) []
empty_more spans at parts new so_far within none =
    map-append (λ (history : History). history.entries.items) parts (new ∷ [])
    ∙ ap (λ (ps : List (List Entry)). ps ++ new.entries.items ∷ []) so_far
    ∙ ap (λ (es : List Entry). parts_in (take at spans) [] ++ es ∷ []) none
    ∙ sym (map-append (λ (span : Span). part_of span.offset span.count []) (take at spans) (get_or spans at (record { offset = 0; count = 0 }) ∷ []))
    ∙ ap (λ (ss : List Span). parts_in ss []) (sym (take_more spans at (record { offset = 0; count = 0 }) within))

-- the empty parts of all spans
pub empty_done : (spans : List Span) (at : ℕ) (parts : List (List Entry)) → parts ≡ parts_in (take at spans) [] → length spans ≤ at → parts ≡ parts_in spans []
empty_done spans at parts so_far none = so_far ∙ ap (λ (ss : List Span). parts_in ss []) (take_all at spans none)
