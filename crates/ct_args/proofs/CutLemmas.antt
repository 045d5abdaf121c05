-- How the words go on behind one option.
use Rattle.std.proofs.Common.{ℕ, zero, suc, ◌+◌, ◌<◌, ◌≤◌, ◌≡◌, List, [], ◌∷◌, length, drop, get_or, refl, sym, ap, ◌∙◌, Some, None, arith, add-one}
use Rattle.std.specs.Prelude.{Option, slice_get, if◌then◌else◌}
use Rattle.std.proofs.lemmas.List.{drop_more, drop_all}
use Rattle.std.specs.Borrow.{Bor}
use Rattle.std.specs.Option.{option_copied}
use Rattle.std.specs.Slice.{IsItemAt}
use Rattle.std.proofs.lemmas.Option.{slice_get_within, slice_get_past, slice_get-get_or}
use Rattle.ct_args.specs.declared.spelling.ValuePlace.{ValuePlace}
use Rattle.ct_args.specs.declared.spelling.ValuePlace.TheVariants.{Nowhere, NextWord, Behind}
use Rattle.ct_args.specs.declared.spelling.Said.{Said}
use Rattle.ct_args.specs.Spelling.{said_of}
use Rattle.ct_args.specs.Given.{Given, value_at, given_by, is_next, takes_next, options_from, end_by, last_word_of}

-- the word that a reference lends, where it lends the one at a place
pub lent_word : (words : List (List ℕ)) (at : ℕ) (lent : Option (Bor (List ℕ))) → IsItemAt words at lent → option_copied lent ≡ slice_get words at
lent_word words at None is = sym (slice_get_past words at is.3)
lent_word words at (Some word) is = ap Some is.1 ∙ sym (slice_get-get_or words at word.now is.3.0)

get-drop : (words : List (List ℕ)) (n : ℕ) → slice_get words n ≡ slice_get (drop n words) 0
get-drop [] zero = refl
get-drop [] (suc n) = refl
get-drop (word ∷ words) zero = refl
get-drop (word ∷ words) (suc n) = get-drop words n

drop_suc : (words : List (List ℕ)) (n : ℕ) (next : List ℕ) (others : List (List ℕ)) → drop n words ≡ next ∷ others → drop (suc n) words ≡ others
drop_suc [] zero next others e = cc
drop_suc [] (suc n) next others e = cc
drop_suc (word ∷ words) zero next others e = cc
drop_suc (word ∷ words) (suc n) next others e = drop_suc words n next others e

drop_next : (words : List (List ℕ)) (n : ℕ) (next : List ℕ) (others : List (List ℕ)) → drop n words ≡ next ∷ others → drop (n + 1) words ≡ others
drop_next words n next others e = rw add-one (drop_suc words n next others e)

-- the options behind a word with this number whose value stands at a place, in front of the rest
abbrev others_from : ValuePlace → ℕ → List (List ℕ) → List Given
others_from place number [] = []
others_from place number (next ∷ others) = if is_next place then options_from (number + 2) others else options_from (number + 1) (next ∷ others)

others-place : (place : ValuePlace) (number : ℕ) (word : List ℕ) (rest words : List (List ℕ)) → drop number words ≡ rest → others_from place number rest ≡ options_from (end_by number (value_at place number word (slice_get rest 0)) + 1) (drop (end_by number (value_at place number word (slice_get rest 0))) words)
others-place Nowhere number word [] words e = sym (ap (options_from (number + 1)) e)
others-place Nowhere number word (next ∷ others) words e = sym (ap (options_from (number + 1)) e)
others-place (Behind count) number word [] words e = sym (ap (options_from (number + 1)) e)
others-place (Behind count) number word (next ∷ others) words e = sym (ap (options_from (number + 1)) e)
others-place NextWord number word [] words e = sym (ap (options_from (number + 1)) e)
others-place NextWord number word (next ∷ others) words e =
    let two : number + 2 ≡ number + 1 + 1 = omega arith in
    ap (λ n. options_from n others) two ∙ sym (ap (options_from (number + 1 + 1)) (drop_next words number next others e))

-- the options that words are whose first one says this
abbrev options_with : Option Said → ℕ → List ℕ → List (List ℕ) → List Given
options_with said number word [] = given_by said number word None ∷ []
options_with said number word (next ∷ others) = given_by said number word (Some next) ∷ (if takes_next said then options_from (number + 2) others else options_from (number + 1) (next ∷ others))

options-with : (number : ℕ) (word : List ℕ) (rest : List (List ℕ)) → options_from number (word ∷ rest) ≡ options_with (said_of word) number word rest
options-with number word [] = refl
options-with number word (next ∷ others) = refl

cut-said : (said : Option Said) (number : ℕ) (word : List ℕ) (rest words : List (List ℕ)) → drop number words ≡ rest → options_with said number word rest ≡ given_by said number word (slice_get rest 0) ∷ options_from (last_word_of (given_by said number word (slice_get rest 0)) + 1) (drop (last_word_of (given_by said number word (slice_get rest 0))) words)
cut-said None number word [] words e = ap (λ others. given_by None number word None ∷ others) (others-place Nowhere number word [] words e)
cut-said None number word (next ∷ others) words e = ap (λ others. given_by None number word None ∷ others) (others-place Nowhere number word (next ∷ others) words e)
cut-said (Some said) number word [] words e = ap (λ others. given_by (Some said) number word None ∷ others) (others-place said.value number word [] words e)
cut-said (Some said) number word (next ∷ others) words e = ap (λ behind. given_by (Some said) number word (Some next) ∷ behind) (others-place said.value number word (next ∷ others) words e)

-- the option behind so many words is cut off
pub cuts : (words : List (List ℕ)) (count : ℕ) (word : List ℕ) (given : Given) → count < length words → word ≡ get_or words count word → given ≡ given_by (said_of word) (count + 1) word (slice_get words (count + 1)) → options_from (count + 1) (drop count words) ≡ given ∷ options_from (last_word_of given + 1) (drop (last_word_of given) words)
cuts words count word given within is same =
    let there : drop count words ≡ word ∷ drop (count + 1) words = drop_more words count word within ∙ ap (λ w. w ∷ drop (count + 1) words) (sym is) in
    let next : given ≡ given_by (said_of word) (count + 1) word (slice_get (drop (count + 1) words) 0) = same ∙ ap (given_by (said_of word) (count + 1) word) (get-drop words (count + 1)) in
    ap (options_from (count + 1)) there ∙ options-with (count + 1) word (drop (count + 1) words)
    ∙ cut-said (said_of word) (count + 1) word (drop (count + 1) words) words refl
    ∙ ap (λ g. g ∷ options_from (last_word_of g + 1) (drop (last_word_of g) words)) (sym next)

end_place : (place : ValuePlace) (number : ℕ) (word : List ℕ) (next : Option (List ℕ)) → number ≤ end_by number (value_at place number word next)
end_place Nowhere number word next = omega arith
end_place (Behind count) number word next = omega arith
end_place NextWord number word None = omega arith
end_place NextWord number word (Some other) = omega arith

end_said : (said : Option Said) (number : ℕ) (word : List ℕ) (next : Option (List ℕ)) → number ≤ last_word_of (given_by said number word next)
end_said None number word next = omega arith
end_said (Some said) number word next = end_place said.value number word next

-- the option behind so many words ends behind them
pub end_grows : (count : ℕ) (word : List ℕ) (given : Given) (next : Option (List ℕ)) → given ≡ given_by (said_of word) (count + 1) word next → count < last_word_of given
end_grows count word given next same =
    let behind : count + 1 ≤ last_word_of given = rw same (end_said (said_of word) (count + 1) word next) in
    omega arith

end_place_within : (place : ValuePlace) (number : ℕ) (word : List ℕ) (words : List (List ℕ)) (next : Option (List ℕ)) → number ≤ length words → slice_get words number ≡ next → end_by number (value_at place number word next) ≤ length words
end_place_within Nowhere number word words next within e = within
end_place_within (Behind count) number word words next within e = within
end_place_within NextWord number word words None within e = within
end_place_within NextWord number word words (Some other) within e =
    let below : number < length words = slice_get_within words number other e in
    omega arith

end_said_within : (said : Option Said) (number : ℕ) (word : List ℕ) (words : List (List ℕ)) → number ≤ length words → last_word_of (given_by said number word (slice_get words number)) ≤ length words
end_said_within None number word words within = within
end_said_within (Some said) number word words within = end_place_within said.value number word words (slice_get words number) within refl

-- the option behind so many words ends within them
pub end_within : (words : List (List ℕ)) (count : ℕ) (word : List ℕ) (given : Given) → count < length words → given ≡ given_by (said_of word) (count + 1) word (slice_get words (count + 1)) → last_word_of given ≤ length words
end_within words count word given within same =
    let here : count + 1 ≤ length words = omega arith in
    rw same (end_said_within (said_of word) (count + 1) word words here)

-- no options stand behind all words
pub none_behind : (words : List (List ℕ)) (count : ℕ) → length words ≤ count → options_from (count + 1) (drop count words) ≡ []
none_behind words count done = ap (options_from (count + 1)) (drop_all count words done)
