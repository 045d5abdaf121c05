-- The list is a value of texts and whole numbers. Its text is a front,
-- the texts of the tests and a back, and reads back to the value.
use Rattle.std.proofs.Common.{◌≡◌, ℕ, zero, suc, ◌<◌, ◌≤◌, ◌^◌, List, [], ◌∷◌, ◌++◌, codes, length, map, false, Option, Some, None, option_map, refl, sym, ap, ◌∙◌, append_assoc, arith}
use Rattle.std.specs.Fmt.{digits}
use Rattle.std.specs.List.{cons_option}
use Rattle.std.proofs.lemmas.Option.{slice_get_within}
use Rattle.json.proofs.Printed.Decimals.{IsNumber-decimal}
use Rattle.serde_json.specs.Data.{Data, Items, item}
use Rattle.serde_json.specs.Read.{read, of_json, of_items}
use Rattle.serde_json.specs.View.{items_of}
use Rattle.serde_json.specs.Written.{compact_text, has_float, outline, items_outline, items_text}
use Rattle.serde_json.proofs.Numbers.{number_of-decimal}
use Rattle.serde_json.proofs.OnLiterals.{serde_json_on_literals}
use Rattle.ct_base.specs.declared.defs.Pair.{Pair}
use Rattle.ct_base.specs.declared.defs.TestDef.{TestDef}
use Rattle.ct_info.specs.Text.{shown}
use Rattle.ct_info.specs.Info.{def_at, info_text, info_value, property_value, test_value, test_values, text_value}
use Rattle.ct_info.proofs.PlainLemmas.{IsPlain, ArePlain, plain_floats, reads_line}

-- ---- texts and whole numbers

texts_plain : (names : List (List ℕ)) → ArePlain (items_of (map text_value names)) 1
texts_plain [] = tt
texts_plain (name ∷ names) = (tt, texts_plain names)

props_plain : (props : List Pair) → ArePlain (items_of (map property_value props)) 1
props_plain [] = tt
props_plain (pair ∷ props) = ((tt, (tt, tt)), props_plain props)

test_plain : (config : List ℕ) (n : ℕ) (def : TestDef) → n < 2 ^ 64 → IsPlain (test_value config n def) 3
test_plain config n def small = (texts_plain def.command, (tt, (tt, ((refl, IsNumber-decimal n small), (props_plain def.props, tt)))))

-- the number of a test is at most the number of tests
number_within : (defs : List TestDef) (n : ℕ) (def : TestDef) → def_at defs n ≡ Some def → n ≤ length defs
number_within defs zero def is = cc
number_within defs (suc place) def is =
    let within : place < length defs = slice_get_within defs place def is in
    let whole : suc place ≤ length defs = omega arith in
    whole

there_plain : (config : List ℕ) (defs : List TestDef) → length defs < 2 ^ 64 → (n : ℕ) (def : Option TestDef) → def_at defs n ≡ def → (rest : List Data) → ArePlain (items_of rest) 3
    → ArePlain (items_of (cons_option (option_map (test_value config n) def) rest)) 3
there_plain config defs few n None is rest plain = plain
there_plain config defs few n (Some def) is rest plain =
    let within : n ≤ length defs = number_within defs n def is in
    let small : n < 2 ^ 64 = omega arith in
    (test_plain config n def small, plain)

tests_plain : (config : List ℕ) (defs : List TestDef) → length defs < 2 ^ 64 → (members : List ℕ) → ArePlain (items_of (test_values config defs members)) 3
tests_plain config defs few [] = tt
tests_plain config defs few (n ∷ ns) = there_plain config defs few n (def_at defs n) refl (test_values config defs ns) (tests_plain config defs few ns)

info_plain : (defs : List TestDef) (members config : List ℕ) → length defs < 2 ^ 64 → IsPlain (info_value defs members config) 5
info_plain defs members config few =
    (tt, (tests_plain (shown config) defs few members, (((refl, IsNumber-decimal 1 (omega arith)), ((refl, IsNumber-decimal 0 (omega arith)), tt)), tt)))

-- the text that is written for the object of a test is the compact text of the object
pub test_text : (config : List ℕ) (n : ℕ) (def : TestDef) → n < 2 ^ 64 → (value : Data) → value ≡ test_value config n def
    → (bytes : List ℕ) → (has_float value ≡ false → bytes ≡ compact_text value) → bytes ≡ compact_text (test_value config n def)
test_text config n def small value is bytes text = text (ap has_float is ∙ plain_floats (test_value config n def) 3 (test_plain config n def small)) ∙ ap compact_text is

-- ---- the trees stand for their values

texts_back : (names : List (List ℕ)) → of_items (items_outline (items_of (map text_value names))) ≡ Some (items_of (map text_value names))
texts_back [] = refl
texts_back (name ∷ names) = ap (option_map (item (text_value name))) (texts_back names)

property_back : (pair : Pair) → of_json (outline (property_value pair)) ≡ Some (property_value pair)
unfolding serde_json_on_literals
property_back pair = refl

item_back : (d : Data) (ds : Items) → of_json (outline d) ≡ Some d → of_items (items_outline ds) ≡ Some ds → of_items (items_outline (item d ds)) ≡ Some (item d ds)
item_back d ds one others = rw (one, others) refl

props_back : (props : List Pair) → of_items (items_outline (items_of (map property_value props))) ≡ Some (items_of (map property_value props))
props_back [] = refl
props_back (pair ∷ props) = item_back (property_value pair) (items_of (map property_value props)) (property_back pair) (props_back props)

test_back : (config : List ℕ) (n : ℕ) (def : TestDef) → n < 2 ^ 64 → of_json (outline (test_value config n def)) ≡ Some (test_value config n def)
test_back config n def small = rw (texts_back def.command, number_of-decimal n small, props_back def.props) refl

there_back : (config : List ℕ) (defs : List TestDef) → length defs < 2 ^ 64 → (n : ℕ) (def : Option TestDef) → def_at defs n ≡ def → (rest : List Data) → of_items (items_outline (items_of rest)) ≡ Some (items_of rest)
    → of_items (items_outline (items_of (cons_option (option_map (test_value config n) def) rest))) ≡ Some (items_of (cons_option (option_map (test_value config n) def) rest))
there_back config defs few n None is rest back = back
there_back config defs few n (Some def) is rest back =
    let within : n ≤ length defs = number_within defs n def is in
    let small : n < 2 ^ 64 = omega arith in
    item_back (test_value config n def) (items_of rest) (test_back config n def small) back

tests_back : (config : List ℕ) (defs : List TestDef) → length defs < 2 ^ 64 → (members : List ℕ) → of_items (items_outline (items_of (test_values config defs members))) ≡ Some (items_of (test_values config defs members))
tests_back config defs few [] = refl
tests_back config defs few (n ∷ ns) = there_back config defs few n (def_at defs n) refl (test_values config defs ns) (tests_back config defs few ns)

info_back : (defs : List TestDef) (members config : List ℕ) → length defs < 2 ^ 64 → of_json (outline (info_value defs members config)) ≡ Some (info_value defs members config)
info_back defs members config few = rw (tests_back (shown config) defs few members, number_of-decimal 1 (omega arith), number_of-decimal 0 (omega arith)) refl

-- ---- the whole

-- the text in front of the objects of the tests
abbrev pub front : List ℕ
front = codes "{\"kind\":\"ctestInfo\",\"tests\":["

-- the text behind the closing bracket of the tests
abbrev pub back : List ℕ
back = codes ",\"version\":{\"major\":1,\"minor\":0}}\n"

-- the front, the texts of the tests and the back are the line
pub line_is : (defs : List TestDef) (members config : List ℕ) → (front ++ items_text false (items_of (test_values (shown config) defs members))) ++ back ≡ info_text (info_value defs members config)
unfolding serde_json_on_literals digits
line_is defs members config =
    let tests = items_text false (items_of (test_values (shown config) defs members)) in
    ap (λ l. front ++ l) (sym (append_assoc tests (codes ",\"version\":{\"major\":1,\"minor\":0}}") (codes "\n")))

-- the line reads back to the value of the list
pub line_reads : (defs : List TestDef) (members config : List ℕ) → length defs < 2 ^ 64 → read (info_text (info_value defs members config)) ≡ Some (info_value defs members config)
line_reads defs members config few = reads_line (info_value defs members config) 5 (info_plain defs members config few) (omega arith) (info_back defs members config few)
