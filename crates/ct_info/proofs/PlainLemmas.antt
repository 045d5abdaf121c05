-- Values of texts and whole numbers hold no float. Their text, with a line feed behind it,
-- reads back to them.
use Rattle.std.proofs.Common.{◌≡◌, ℕ, zero, suc, ◌≤◌, List, [], ◌∷◌, ◌++◌, Bool, true, false, codes, Option, Some, option_and_then, refl, sym, ap, ap₂, ◌∙◌, append_assoc, append-nil, arith}
use Rattle.std.specs.Prelude.{⊤}
use Rattle.std.proofs.Math.Nat.{max-le}
use Rattle.std.proofs.lemmas.Bool.{or_from}
use Rattle.json.specs.Token.{Token}
use Rattle.json.specs.Word.{ends_word}
use Rattle.json.specs.Lex.{token, comma, colon, string_token, lex, between, fresh, punctuate, tokens}
use Rattle.json.specs.Print.{IsNumber, escape, quoted}
use Rattle.json.specs.Json as json
use Rattle.json.specs.Tree as tree
use Rattle.json.proofs.Printed.Strings.{content-escape, lex-escape}
use Rattle.json.proofs.Printed.Numbers.{lex-number}
use Rattle.json.proofs.Printed.Tokens.{tokens-print}
use Rattle.json.proofs.Printed.Trees.{ArePrintable-json_tokens, value-json_tokens}
use Rattle.serde_json.specs.Data.{Data, null, boolean, number, string, array, object, Items, no_items, item, Members, no_members, member}
use Rattle.serde_json.specs.Find.{is_float}
use Rattle.serde_json.specs.Read.{of_json, max_depth, read}
use Rattle.serde_json.specs.Written.{number_text, outline, items_outline, members_outline, has_float, items_have_float, members_have_float, comma_if, compact_text, items_text, members_text}
use Rattle.serde_json.proofs.Texts.{print-outline}
use Rattle.ct_info.specs.Info.{info_text}

-- a value of texts and whole numbers, whose arrays and objects nest at most this deep
abbrev mutual
  pub IsPlain : Data → ℕ → Type 0
  IsPlain null k = ⊥
  IsPlain (boolean b) k = ⊥
  IsPlain (number n) k = (is_float n ≡ false) × IsNumber (number_text n)
  IsPlain (string s) k = ⊤
  IsPlain (array ds) zero = ⊥
  IsPlain (array ds) (suc k) = ArePlain ds k
  IsPlain (object ms) zero = ⊥
  IsPlain (object ms) (suc k) = MembersArePlain ms k

  pub ArePlain : Items → ℕ → Type 0
  ArePlain no_items k = ⊤
  ArePlain (item d ds) k = IsPlain d k × ArePlain ds k

  pub MembersArePlain : Members → ℕ → Type 0
  MembersArePlain no_members k = ⊤
  MembersArePlain (member key d ms) k = IsPlain d k × MembersArePlain ms k

-- ---- no float, and numbers and depth of the tree

mutual
  pub plain_floats : (d : Data) (k : ℕ) → IsPlain d k → has_float d ≡ false
  plain_floats null k plain = absurd plain
  plain_floats (boolean b) k plain = absurd plain
  plain_floats (number n) k plain = plain.0
  plain_floats (string s) k plain = refl
  plain_floats (array ds) zero plain = absurd plain
  plain_floats (array ds) (suc k) plain = items_floats ds k plain
  plain_floats (object ms) zero plain = absurd plain
  plain_floats (object ms) (suc k) plain = members_floats ms k plain

  items_floats : (ds : Items) (k : ℕ) → ArePlain ds k → items_have_float ds ≡ false
  items_floats no_items k plain = refl
  items_floats (item d ds) k plain = or_from (has_float d) (items_have_float ds) (plain_floats d k plain.0) (items_floats ds k plain.1)

  members_floats : (ms : Members) (k : ℕ) → MembersArePlain ms k → members_have_float ms ≡ false
  members_floats no_members k plain = refl
  members_floats (member key d ms) k plain = or_from (has_float d) (members_have_float ms) (plain_floats d k plain.0) (members_floats ms k plain.1)

at_least_none : (k : ℕ) → 0 ≤ k
at_least_none k = omega arith

one_deeper : (n k : ℕ) → n ≤ k → suc n ≤ suc k
one_deeper n k less = omega arith

mutual
  plain_numbers : (d : Data) (k : ℕ) → IsPlain d k → tree.HasNumbers (outline d)
  plain_numbers null k plain = absurd plain
  plain_numbers (boolean b) k plain = absurd plain
  plain_numbers (number n) k plain = plain.1
  plain_numbers (string s) k plain = tt
  plain_numbers (array ds) zero plain = absurd plain
  plain_numbers (array ds) (suc k) plain = items_numbers ds k plain
  plain_numbers (object ms) zero plain = absurd plain
  plain_numbers (object ms) (suc k) plain = members_numbers ms k plain

  items_numbers : (ds : Items) (k : ℕ) → ArePlain ds k → tree.ItemsHaveNumbers (items_outline ds)
  items_numbers no_items k plain = tt
  items_numbers (item d ds) k plain = (plain_numbers d k plain.0, items_numbers ds k plain.1)

  members_numbers : (ms : Members) (k : ℕ) → MembersArePlain ms k → tree.MembersHaveNumbers (members_outline ms)
  members_numbers no_members k plain = tt
  members_numbers (member key d ms) k plain = (plain_numbers d k plain.0, members_numbers ms k plain.1)

mutual
  plain_depth : (d : Data) (k : ℕ) → IsPlain d k → tree.depth (outline d) ≤ k
  plain_depth null k plain = absurd plain
  plain_depth (boolean b) k plain = absurd plain
  plain_depth (number n) k plain = at_least_none k
  plain_depth (string s) k plain = at_least_none k
  plain_depth (array ds) zero plain = absurd plain
  plain_depth (array ds) (suc k) plain = one_deeper (tree.items_depth (items_outline ds)) k (items_plain_depth ds k plain)
  plain_depth (object ms) zero plain = absurd plain
  plain_depth (object ms) (suc k) plain = one_deeper (tree.members_depth (members_outline ms)) k (members_plain_depth ms k plain)

  items_plain_depth : (ds : Items) (k : ℕ) → ArePlain ds k → tree.items_depth (items_outline ds) ≤ k
  items_plain_depth no_items k plain = at_least_none k
  items_plain_depth (item d ds) k plain = max-le (plain_depth d k plain.0) (items_plain_depth ds k plain.1)

  members_plain_depth : (ms : Members) (k : ℕ) → MembersArePlain ms k → tree.members_depth (members_outline ms) ≤ k
  members_plain_depth no_members k plain = at_least_none k
  members_plain_depth (member key d ms) k plain = max-le (plain_depth d k plain.0) (members_plain_depth ms k plain.1)

-- ---- what stands behind a value

-- two texts that read alike behind a value
record Alike (one other : List ℕ) : Type 0 where
  same : lex between one ≡ lex between other
  ends : ends_word one ≡ true
  other_ends : ends_word other ≡ true

-- a quoted text is read as one string token
quoted_lexed : (s rest : List ℕ) → lex between (quoted s ++ rest) ≡ token (Token.string s) ∷ lex between rest
unfolding lex
quoted_lexed s rest =
    ap (λ l. lex between (34 ∷ l)) (append_assoc (escape s) (34 ∷ []) rest)
    ∙ ap₂ (λ o l. token (string_token o) ∷ l) (content-escape s rest) (lex-escape s rest)

-- texts that are read alike behind `more` behind `front` are read alike behind `front` and `more` as one text
regrouped : (front more one other : List ℕ) → lex between (front ++ (more ++ one)) ≡ lex between (front ++ (more ++ other)) → lex between ((front ++ more) ++ one) ≡ lex between ((front ++ more) ++ other)
regrouped front more one other same = ap (lex between) (append_assoc front more one) ∙ same ∙ sym (ap (lex between) (append_assoc front more other))

behind_comma : (later : Bool) (one other : List ℕ) → lex between one ≡ lex between other → lex between (comma_if later ++ one) ≡ lex between (comma_if later ++ other)
unfolding lex
behind_comma true one other same = ap (λ l. comma ∷ l) same
behind_comma false one other same = same

behind_key : (key more one other : List ℕ) → lex between (more ++ one) ≡ lex between (more ++ other) → lex between ((quoted key ++ 58 ∷ more) ++ one) ≡ lex between ((quoted key ++ 58 ∷ more) ++ other)
unfolding lex
behind_key key more one other same =
    regrouped (quoted key) (58 ∷ more) one other
    (quoted_lexed key (58 ∷ (more ++ one)) ∙ ap (λ l. token (Token.string key) ∷ colon ∷ l) same ∙ sym (quoted_lexed key (58 ∷ (more ++ other))))

items_end : (ds : Items) (rest : List ℕ) → ends_word (items_text true ds ++ rest) ≡ true
items_end no_items rest = refl
items_end (item d ds) rest = refl

members_end : (ms : Members) (rest : List ℕ) → ends_word (members_text true ms ++ rest) ≡ true
members_end no_members rest = refl
members_end (member key d ms) rest = refl

items_behind : (ds : Items) (one other : List ℕ) → lex between (items_text true ds ++ one) ≡ lex between (items_text true ds ++ other) → Alike (items_text true ds ++ one) (items_text true ds ++ other)
items_behind ds one other same = record { same = same; ends = items_end ds one; other_ends = items_end ds other }

members_behind : (ms : Members) (one other : List ℕ) → lex between (members_text true ms ++ one) ≡ lex between (members_text true ms ++ other) → Alike (members_text true ms ++ one) (members_text true ms ++ other)
members_behind ms one other same = record { same = same; ends = members_end ms one; other_ends = members_end ms other }

mutual
  unfolding lex

  value_alike : (d : Data) (k : ℕ) → IsPlain d k → (one other : List ℕ) → Alike one other → lex between (compact_text d ++ one) ≡ lex between (compact_text d ++ other)
  value_alike null k plain one other alike = absurd plain
  value_alike (boolean b) k plain one other alike = absurd plain
  value_alike (number n) k plain one other alike =
      lex-number (number_text n) one plain.1 alike.ends
      ∙ ap (λ l. token (Token.number (number_text n)) ∷ l) alike.same
      ∙ sym (lex-number (number_text n) other plain.1 alike.other_ends)
  value_alike (string s) k plain one other alike = quoted_lexed s one ∙ ap (λ l. token (Token.string s) ∷ l) alike.same ∙ sym (quoted_lexed s other)
  value_alike (array ds) zero plain one other alike = absurd plain
  value_alike (array ds) (suc k) plain one other alike = ap (λ l. token Token.begin_array ∷ l) (items_alike false ds k plain one other alike.same)
  value_alike (object ms) zero plain one other alike = absurd plain
  value_alike (object ms) (suc k) plain one other alike = ap (λ l. token Token.begin_object ∷ l) (members_alike false ms k plain one other alike.same)

  items_alike : (later : Bool) (ds : Items) (k : ℕ) → ArePlain ds k → (one other : List ℕ) → lex between one ≡ lex between other
      → lex between (items_text later ds ++ one) ≡ lex between (items_text later ds ++ other)
  items_alike later no_items k plain one other same = ap (λ l. token Token.end_array ∷ l) same
  items_alike later (item d ds) k plain one other same =
      let rest = items_text true ds in
      regrouped (comma_if later) (compact_text d ++ rest) one other
      (behind_comma later ((compact_text d ++ rest) ++ one) ((compact_text d ++ rest) ++ other)
      (regrouped (compact_text d) rest one other
      (value_alike d k plain.0 (rest ++ one) (rest ++ other) (items_behind ds one other (items_alike true ds k plain.1 one other same)))))

  members_alike : (later : Bool) (ms : Members) (k : ℕ) → MembersArePlain ms k → (one other : List ℕ) → lex between one ≡ lex between other
      → lex between (members_text later ms ++ one) ≡ lex between (members_text later ms ++ other)
  members_alike later no_members k plain one other same = ap (λ l. token Token.end_object ∷ l) same
  members_alike later (member key d ms) k plain one other same =
      let rest = members_text true ms in
      let whole = quoted key ++ 58 ∷ (compact_text d ++ rest) in
      regrouped (comma_if later) whole one other
      (behind_comma later (whole ++ one) (whole ++ other)
      (behind_key key (compact_text d ++ rest) one other
      (regrouped (compact_text d) rest one other
      (value_alike d k plain.0 (rest ++ one) (rest ++ other) (members_behind ms one other (members_alike true ms k plain.1 one other same))))))

-- the line of a value has the same tokens as the text of the value
line_tokens : (d : Data) (k : ℕ) → IsPlain d k → tokens (info_text d) ≡ tokens (compact_text d)
unfolding lex
line_tokens d k plain =
    ap (punctuate fresh)
    (value_alike d k plain (codes "\n") [] (record { same = refl; ends = refl; other_ends = refl }) ∙ ap (lex between) (append-nil (compact_text d)))

-- the value that tokens are read as
abbrev read_tokens : List Token → Option Data
read_tokens ts = option_and_then of_json (option_and_then (λ p. json.if_last p.0 p.1) (json.value max_depth ts))

-- the tokens of the text of a value
text_tokens : (d : Data) (k : ℕ) → IsPlain d k → tokens (compact_text d) ≡ tree.json_tokens (outline d)
text_tokens d k plain = ap tokens (sym (print-outline d)) ∙ tokens-print (tree.json_tokens (outline d)) (ArePrintable-json_tokens (outline d) (plain_numbers d k plain))

-- the tokens of the tree of a value are read as this tree
tokens_value : (d : Data) (k : ℕ) → IsPlain d k → k ≤ max_depth → json.value max_depth (tree.json_tokens (outline d)) ≡ Some (outline d, [])
tokens_value d k plain most =
    let least : tree.depth (outline d) ≤ k = plain_depth d k plain in
    let flat : tree.depth (outline d) ≤ 127 = omega arith in
    ap (json.value max_depth) (sym (append-nil (tree.json_tokens (outline d)))) ∙ value-json_tokens (outline d) max_depth [] flat

-- the line of a value reads back to the value, where the tree of the value stands for it
pub reads_line : (d : Data) (k : ℕ) → IsPlain d k → k ≤ max_depth → of_json (outline d) ≡ Some d → read (info_text d) ≡ Some d
reads_line d k plain most back =
    ap read_tokens (line_tokens d k plain ∙ text_tokens d k plain)
    ∙ ap (λ r. option_and_then of_json (option_and_then (λ p. json.if_last p.0 p.1) r)) (tokens_value d k plain most)
    ∙ back
