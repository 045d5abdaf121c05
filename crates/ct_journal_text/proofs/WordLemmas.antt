-- The words of a line: the text with one space between them is cut into them again, and each is read as what it was written for.
use Rattle.std.proofs.Common.{ℕ, ◌+◌, ◌<◌, ◌≤◌, ◌≡◌, ◌==◌, Bool, true, false, cond, List, [], ◌∷◌, ◌++◌, length, map, flat_map, refl, ap, ◌∙◌, arith, codes, decimal, bytes_eq, take, drop, All, length-append, append-nil}
use Rattle.std.specs.List.{list_all, AllByRecursion}
use Rattle.std.proofs.lemmas.List.Elements.{All-nil, All-cons}
use Rattle.std.proofs.lemmas.Bool.{ne_eqb, eq-eqb, and_parts, not-true, and_from}
use Rattle.std.proofs.lemmas.Fmt.{decimal_nonempty}
use Rattle.std.proofs.lemmas.List.Folds.{list_all-append}
use Rattle.std.proofs.lemmas.List.Splits.{slice_split_at, slice_split_none}
use Rattle.ct_verdict.specs.declared.attempt.How.{How}
use Rattle.ct_verdict.specs.declared.attempt.How.TheVariants.{Exited, Signalled, TimedOut, NotStarted, Lacks, NoMemory}
use Rattle.ct_verdict.specs.declared.verdict.Cause.{Cause}
use Rattle.ct_verdict.specs.declared.verdict.Cause.TheVariants as Why
use Rattle.ct_journal_text.specs.Journal.{how_text, not_run_word, hit_digit, listed, IsOf32Bits, HowFits, CauseFits}
use Rattle.ct_journal_text.specs.Guess.{pieces, short_in, code_written, how_in, numbered_cause_in, cause_in, places_in_word}
use Rattle.std.proofs.Math.Dec.{ltb}
use Rattle.ct_journal_text.proofs.NumberLemmas.{is_free, is_spaceless, decimal_free, decimal_spaceless, code_spaceless, spaceless_free, short_again, code_again, short_fits, code_fits}

free_all : (separator : ℕ) (text : List ℕ) → is_free separator text ≡ true → All (λ byte. (byte == separator) ≡ false) text
free_all separator [] free = All-nil (λ byte. (byte == separator) ≡ false)
free_all separator (byte ∷ text) free =
    let parts = and_parts _ _ free in
    All-cons (λ other. (other == separator) ≡ false) byte text (not-true (byte == separator) parts.0) (free_all separator text parts.1)

-- words with one byte between them are cut at it
pub cut_again : (separator : ℕ) (word : List ℕ) (words : List (List ℕ)) → is_free separator word ≡ true → list_all (is_free separator) words ≡ true → pieces separator (word ++ flat_map (λ other. separator ∷ other) words) ≡ word ∷ words
cut_again separator word [] free all =
    ap (pieces separator) (append-nil word) ∙ slice_split_none (λ byte. byte == separator) word (free_all separator word free)
cut_again separator word (next ∷ words) free all =
    let parts = and_parts _ _ all in
    slice_split_at (λ byte. byte == separator) word separator (next ++ flat_map (λ other. separator ∷ other) words) (free_all separator word free) (eq-eqb separator separator refl)
    ∙ ap (λ ps. word ∷ ps) (cut_again separator next words parts.0 parts.1)

-- how an attempt ended
pub how_again : (how : How) → HowFits how → how_in (how_text how) ≡ how
how_again (Exited code) fits = ap Exited (code_again code fits)
how_again Signalled fits = refl
how_again TimedOut fits = refl
how_again NotStarted fits = refl
how_again (Lacks place) fits = ap Lacks (short_again place fits)
how_again NoMemory fits = refl

how_spaceless : (how : How) → HowFits how → is_spaceless (how_text how) ≡ true
how_spaceless (Exited code) fits = code_spaceless code fits
how_spaceless Signalled fits = refl
how_spaceless TimedOut fits = refl
how_spaceless NotStarted fits = refl
how_spaceless (Lacks place) fits = decimal_spaceless place (omega (arith, fits))
how_spaceless NoMemory fits = refl

pub how_free : (separator : ℕ) → separator ≤ 32 → (how : How) → HowFits how → is_free separator (how_text how) ≡ true
how_free separator least how fits = spaceless_free separator (how_text how) least (how_spaceless how fits)

-- why a test did not run
pub cause_again : (cause : Cause) → CauseFits cause → cause_in (not_run_word cause) ≡ cause
cause_again Why.Unstarted fits = refl
cause_again (Why.Lacks place) fits = ap Why.Lacks (short_again place fits)
cause_again (Why.Fixture setup) fits = ap Why.Fixture (short_again setup fits)
cause_again Why.NotAvailable fits = refl
cause_again (Why.BadOperation place) fits = ap Why.BadOperation (short_again place fits)
cause_again Why.Insufficient fits = refl
cause_again Why.Stopped fits = refl
cause_again Why.Memory fits = refl

cause_spaceless : (cause : Cause) → CauseFits cause → is_spaceless (not_run_word cause) ≡ true
cause_spaceless Why.Unstarted fits = refl
cause_spaceless (Why.Lacks place) fits = decimal_spaceless place (omega (arith, fits))
cause_spaceless (Why.Fixture setup) fits = decimal_spaceless setup (omega (arith, fits))
cause_spaceless Why.NotAvailable fits = refl
cause_spaceless (Why.BadOperation place) fits = decimal_spaceless place (omega (arith, fits))
cause_spaceless Why.Insufficient fits = refl
cause_spaceless Why.Stopped fits = refl
cause_spaceless Why.Memory fits = refl

pub cause_free : (separator : ℕ) → separator ≤ 32 → (cause : Cause) → CauseFits cause → is_free separator (not_run_word cause) ≡ true
cause_free separator least cause fits = spaceless_free separator (not_run_word cause) least (cause_spaceless cause fits)

-- the digit of a hit
pub hit_again : (hit : Bool) → (hit_digit hit == 49) ≡ hit
hit_again true = refl
hit_again false = refl

hit_spaceless : (hit : Bool) → ltb 32 (hit_digit hit) ≡ true
hit_spaceless true = refl
hit_spaceless false = refl

pub hits_free : (separator : ℕ) → separator ≤ 32 → (one two three : Bool) → is_free separator (hit_digit one ∷ hit_digit two ∷ hit_digit three ∷ []) ≡ true
hits_free separator least one two three =
    spaceless_free separator (hit_digit one ∷ hit_digit two ∷ hit_digit three ∷ []) least
    (and_from (ltb 32 (hit_digit one)) (is_spaceless (hit_digit two ∷ hit_digit three ∷ [])) (hit_spaceless one)
    (and_from (ltb 32 (hit_digit two)) (is_spaceless (hit_digit three ∷ [])) (hit_spaceless two) (and_from (ltb 32 (hit_digit three)) true (hit_spaceless three) refl)))

-- places as words with a comma between them
in_words : (places : List ℕ) → flat_map (λ other. codes "," ++ decimal other) places ≡ flat_map (λ word. 44 ∷ word) (map decimal places)
in_words [] = refl
in_words (place ∷ places) = ap (λ rest. 44 ∷ (decimal place ++ rest)) (in_words places)

shorts_again : (places : List ℕ) → AllByRecursion IsOf32Bits places → map short_in (map decimal places) ≡ places
shorts_again [] fit = refl
shorts_again (place ∷ places) fit = λ i. short_again place fit.0 i ∷ shorts_again places fit.1 i

decimals_free : (places : List ℕ) → AllByRecursion IsOf32Bits places → list_all (is_free 44) (map decimal places) ≡ true
decimals_free [] fit = refl
decimals_free (place ∷ places) fit = and_from (is_free 44 (decimal place)) (list_all (is_free 44) (map decimal places)) (decimal_free 44 place (omega arith) (omega (arith, fit.0))) (decimals_free places fit.1)

-- the places of resources
pub places_again : (places : List ℕ) → AllByRecursion IsOf32Bits places → places_in_word (listed places) ≡ places
places_again [] fit = refl
places_again (place ∷ places) fit =
    let rest = flat_map (λ other. codes "," ++ decimal other) places in
    let some : 0 < length (decimal place) = decimal_nonempty place (omega (arith, fit.0)) in
    let len : length (decimal place ++ rest) ≡ length (decimal place) + length rest = length-append (decimal place) rest in
    ap (λ b. cond b [] (map short_in (pieces 44 (decimal place ++ rest)))) (ne_eqb (length (decimal place ++ rest)) 0 (λ e. omega (arith, some, len, e)))
    ∙ ap (λ more. map short_in (pieces 44 (decimal place ++ more))) (in_words places)
    ∙ ap (map short_in) (cut_again 44 (decimal place) (map decimal places) (decimal_free 44 place (omega arith) (omega (arith, fit.0))) (decimals_free places fit.1))
    ∙ shorts_again (place ∷ places) fit

others_spaceless : (places : List ℕ) → AllByRecursion IsOf32Bits places → is_spaceless (flat_map (λ other. codes "," ++ decimal other) places) ≡ true
others_spaceless [] fit = refl
others_spaceless (place ∷ places) fit =
    let rest = flat_map (λ other. codes "," ++ decimal other) places in
    list_all-append (λ byte. ltb 32 byte) (decimal place) rest ∙ and_from (is_spaceless (decimal place)) (is_spaceless rest) (decimal_spaceless place (omega (arith, fit.0))) (others_spaceless places fit.1)

listed_spaceless : (places : List ℕ) → AllByRecursion IsOf32Bits places → is_spaceless (listed places) ≡ true
listed_spaceless [] fit = refl
listed_spaceless (place ∷ places) fit =
    let rest = flat_map (λ other. codes "," ++ decimal other) places in
    list_all-append (λ byte. ltb 32 byte) (decimal place) rest ∙ and_from (is_spaceless (decimal place)) (is_spaceless rest) (decimal_spaceless place (omega (arith, fit.0))) (others_spaceless places fit.1)

pub listed_free : (separator : ℕ) → separator ≤ 32 → (places : List ℕ) → AllByRecursion IsOf32Bits places → is_free separator (listed places) ≡ true
listed_free separator least places fit = spaceless_free separator (listed places) least (listed_spaceless places fit)

how_by : (b : Bool) (one other : How) → HowFits one → HowFits other → HowFits (cond b one other)
how_by true one other fits also = fits
how_by false one other fits also = also

-- how an attempt ended has its numbers in their ranges, whatever the word is
pub how_fits : (word : List ℕ) → HowFits (how_in word)
how_fits word =
    let ended = Exited (code_written (drop 5 word)) in
    let lacks = cond (bytes_eq (take 6 word) (codes "lacks:")) (Lacks (short_in (drop 6 word))) ended in
    let memory = cond (bytes_eq word (codes "memory")) NoMemory lacks in
    let unstarted = cond (bytes_eq word (codes "unstarted")) NotStarted memory in
    let timeout = cond (bytes_eq word (codes "timeout")) TimedOut unstarted in
    how_by (bytes_eq word (codes "signal")) Signalled timeout tt
    (how_by (bytes_eq word (codes "timeout")) TimedOut unstarted tt
    (how_by (bytes_eq word (codes "unstarted")) NotStarted memory tt
    (how_by (bytes_eq word (codes "memory")) NoMemory lacks tt
    (how_by (bytes_eq (take 6 word) (codes "lacks:")) (Lacks (short_in (drop 6 word))) ended (short_fits (drop 6 word)) (code_fits (drop 5 word))))))

cause_by : (b : Bool) (one other : Cause) → CauseFits one → CauseFits other → CauseFits (cond b one other)
cause_by true one other fits also = fits
cause_by false one other fits also = also

numbered_fits : (word : List ℕ) → CauseFits (numbered_cause_in word)
numbered_fits word =
    let operation = Why.BadOperation (short_in (drop 13 word)) in
    let setup = cond (bytes_eq (take 8 word) (codes "fixture:")) (Why.Fixture (short_in (drop 8 word))) operation in
    cause_by (bytes_eq (take 6 word) (codes "lacks:")) (Why.Lacks (short_in (drop 6 word))) setup (short_fits (drop 6 word))
    (cause_by (bytes_eq (take 8 word) (codes "fixture:")) (Why.Fixture (short_in (drop 8 word))) operation (short_fits (drop 8 word)) (short_fits (drop 13 word)))

-- a cause has its number in its range, whatever the word is
pub cause_fits : (word : List ℕ) → CauseFits (cause_in word)
cause_fits word =
    let numbered = numbered_cause_in word in
    let memory = cond (bytes_eq word (codes "memory")) Why.Memory numbered in
    let stopped = cond (bytes_eq word (codes "stopped")) Why.Stopped memory in
    let insufficient = cond (bytes_eq word (codes "insufficient")) Why.Insufficient stopped in
    let notavailable = cond (bytes_eq word (codes "notavailable")) Why.NotAvailable insufficient in
    cause_by (bytes_eq word (codes "unstarted")) Why.Unstarted notavailable tt
    (cause_by (bytes_eq word (codes "notavailable")) Why.NotAvailable insufficient tt
    (cause_by (bytes_eq word (codes "insufficient")) Why.Insufficient stopped tt
    (cause_by (bytes_eq word (codes "stopped")) Why.Stopped memory tt (cause_by (bytes_eq word (codes "memory")) Why.Memory numbered tt (numbered_fits word)))))

shorts_fit : (words : List (List ℕ)) → AllByRecursion IsOf32Bits (map short_in words)
shorts_fit [] = tt
shorts_fit (word ∷ words) = (short_fits word, shorts_fit words)

places_by : (b : Bool) (words : List (List ℕ)) → AllByRecursion IsOf32Bits (cond b [] (map short_in words))
places_by true words = tt
places_by false words = shorts_fit words

-- places have their range, whatever the word is
pub places_fit : (word : List ℕ) → AllByRecursion IsOf32Bits (places_in_word word)
places_fit word = places_by (length word == 0) (pieces 44 word)
