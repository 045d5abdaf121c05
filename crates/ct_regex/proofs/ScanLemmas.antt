-- What a scan answers behind a text is whether the pattern hits it.
use Rattle.std.proofs.Common.{◌≡◌, ◌≤◌, ◌<◌, ◌⊎◌, ◌||◌, ◌==◌, ℕ, ◌+◌, Bool, true, false, List, [], ◌∷◌, ◌++◌, length, map, drop, get_or, ⊎_elim, refl, sym, ◌∙◌, ap, subst, append-nil, append_assoc, arith}
use Rattle.std.proofs.lemmas.List.{length-append, get_or_at, drop_more}
use Rattle.std.proofs.lemmas.Bool.{eq-eqb, ne_eqb, or_cases, or_left, or_parts}
use Rattle.ct_regex.specs.Tree.{Tree}
use Rattle.ct_regex.specs.Ends.{hits}
use Rattle.ct_regex.specs.Reading.{can_be_empty}
use Rattle.ct_regex.specs.Sound.{is_sound}
use Rattle.ct_regex.specs.Walk.{Step, step_of, all_flow, walked, steps_of, no_marks}
use Rattle.ct_regex.specs.Stand.{Stand, a_stand, stand_with, stand_by, behind_byte, behind_bytes, answer}
use Rattle.ct_regex.specs.Scan.{stand_of, StandsFor, ScansOn}
use Rattle.ct_regex.specs.declared.walk.Flow.{Flow}
use Rattle.ct_regex.specs.declared.scan.Scan.{Scan}
use Rattle.ct_regex.proofs.HitLemmas.{hits_from, hits_to}
use Rattle.ct_regex.proofs.Live.{Spot, spot_at, leaves, next_marks}
use Rattle.ct_regex.proofs.LiveLemmas.{Out, Right, Places, bounded, ends_le, leaves_sound, leaves_whole, next_right, first_right}
use Rattle.ct_regex.proofs.WalkLemmas.{slots, slots_first, flow_of, before_byte, a_walk, over, leaves_empty}

-- the steps of a whole pattern
abbrev pub all_steps : Tree → List Step
all_steps tree = steps_of false 0 tree

-- where a scan of the pattern stands before the first byte
abbrev pub first_stand : Tree → Stand
first_stand tree = record { marks = no_marks tree; found = false; last = can_be_empty tree }

-- a scan has come to a place of the text
pub record Follows (text : List ℕ) (tree : Tree) (place : ℕ) (stand : Stand) : Type 0 where
  pub marks : List Bool
  pub kept : stand.marks ≡ slots tree (place == 0) marks
  pub right : Right text tree (Places text) place marks
  pub some : stand.found ≡ true → hits tree text ≡ true
  pub none : stand.found ≡ false → (before : ℕ) → before < place → Out text tree (Places text) before → ⊥
  pub last : stand.last ≡ leaves tree true (record { is_first = place == 0; is_last = true }) marks

follows_first : (text : List ℕ) (tree : Tree) → is_sound tree ≡ true → Follows text tree 0 (first_stand tree)
follows_first text tree s = record {
  marks = [];
  kept = sym (slots_first tree);
  right = first_right text tree (Places text);
  some = λ h. absurd (let no : false ≡ true = h in cc);
  none = λ h before below out. absurd (omega arith);
  last = sym (leaves_empty tree true s);
}

not_first : (place : ℕ) → (place + 1 == 0) ≡ false
not_first place = ne_eqb (place + 1) 0 (λ h. absurd (omega (arith, h)))

abbrev a_spot : Bool → Bool → Spot
a_spot first last = record { is_first = first; is_last = last }

spot_before : (text : List ℕ) (place : ℕ) → place < length text → spot_at text place ≡ before_byte (place == 0)
spot_before text place inside = ap (a_spot (place == 0)) (ne_eqb place (length text) (λ h. absurd (omega (arith, h, inside))))

-- a walk over the whole pattern
walk_all : (tree : Tree) (first : Bool) (marks : List Bool) (byte : ℕ) → is_sound tree ≡ true →
    walked (all_steps tree) byte (a_walk all_flow [] (slots tree first marks))
    ≡ a_walk (flow_of tree all_flow first marks (next_marks tree true (before_byte first) byte marks)) [] (slots tree false (next_marks tree true (before_byte first) byte marks))
walk_all tree first marks byte s =
    let next : List Bool = next_marks tree true (before_byte first) byte marks in
    ap (λ (ms : List Bool). walked (all_steps tree) byte (a_walk all_flow [] ms)) (sym (append-nil (slots tree first marks)))
    ∙ (over tree s).0 0 [] [] [] all_flow first marks next [] byte refl (sym (append-nil next))
    ∙ ap (a_walk (flow_of tree all_flow first marks next) []) (append-nil (slots tree false next))

follows_more : (text : List ℕ) (tree : Tree) (place byte : ℕ) (stand : Stand) → is_sound tree ≡ true → place < length text → byte ≡ get_or text place 0 →
    Follows text tree place stand → Follows text tree (place + 1) (behind_byte (all_steps tree) stand byte)
follows_more text tree place byte stand s inside e h = subst (Follows text tree (place + 1)) (sym there) record {
  marks = next;
  kept = ap (λ (b : Bool). slots tree b next) (sym (not_first place));
  right = subst (λ (ms : List Bool). Right text tree (Places text) (place + 1) ms)
      (append-nil (next_marks tree true (spot_at text place) byte h.marks) ∙ ap (λ (p : Spot). next_marks tree true p byte h.marks) here)
      (next_right text tree (Places text) place byte true h.marks [] (bounded text) s inside e h.right (λ t. omega arith) (λ w. refl));
  some = λ f. ⊎_elim (λ was. h.some was) (λ goes. some_now (ap (λ (p : Spot). leaves tree true p h.marks) here ∙ goes)) (or_cases stand.found flow.now f);
  none = λ f before below out.
      let none = or_parts stand.found flow.now f in
      ⊎_elim (λ earlier. h.none none.0 before earlier out)
      (λ same. none_now (ap (λ (p : Spot). leaves tree true p h.marks) here ∙ none.1) (subst (Out text tree (Places text)) same out))
      (before_or before below);
  last = ap (λ (b : Bool). leaves tree true (a_spot b true) next) (sym (not_first place));
}
  where
    here : spot_at text place ≡ before_byte (place == 0)
    here = spot_before text place inside

    next : List Bool
    next = next_marks tree true (before_byte (place == 0)) byte h.marks

    flow : Flow
    flow = flow_of tree all_flow (place == 0) h.marks next

    there : behind_byte (all_steps tree) stand byte ≡ stand_by stand (a_walk flow [] (slots tree false next))
    there =
        ap (λ (ms : List Bool). stand_by stand (walked (all_steps tree) byte (a_walk all_flow [] ms))) h.kept
        ∙ ap (stand_by stand) (walk_all tree (place == 0) h.marks byte s)

    some_now : leaves tree true (spot_at text place) h.marks ≡ true → hits tree text ≡ true
    some_now goes =
        let out = leaves_sound text tree (Places text) place true h.marks (bounded text) s h.right (λ t. omega (arith, inside)) goes in
        hits_from (length text) text tree out.0 place out.1 out.2

    none_now : leaves tree true (spot_at text place) h.marks ≡ false → Out text tree (Places text) place → ⊥
    none_now stays out =
        let goes = leaves_whole text tree (Places text) place true h.marks (bounded text) s h.right (λ w. refl) out in
        let clash : true ≡ false = sym goes ∙ stays in cc

    before_or : (before : ℕ) → before < place + 1 → (before < place) ⊎ (before ≡ place)
    before_or before below = grind arith

follows_last : (text : List ℕ) (tree : Tree) (stand : Stand) → is_sound tree ≡ true → Follows text tree (length text) stand → answer stand ≡ hits tree text
follows_last text tree stand s h = by_found stand.found refl
  where
    end_spot : spot_at text (length text) ≡ a_spot (length text == 0) true
    end_spot = ap (a_spot (length text == 0)) (eq-eqb (length text) (length text) refl)

    last : stand.last ≡ leaves tree true (spot_at text (length text)) h.marks
    last = h.last ∙ ap (λ (p : Spot). leaves tree true p h.marks) (sym end_spot)

    below_or : (place : ℕ) → place ≤ length text → (place < length text) ⊎ (place ≡ length text)
    below_or place under = grind arith

    nowhere : stand.found ≡ false → stand.last ≡ false → (b : Bool) → hits tree text ≡ b → false ≡ hits tree text
    nowhere f l false n = sym n
    nowhere f l true n =
        let found = hits_to (length text) text tree n in
        let top = ends_le text tree found.0 found.2 found.1 found.3 in
        absurd (⊎_elim
        (λ below. h.none f found.2 below (found.0, found.1, found.3))
        (λ here.
        let goes = leaves_whole text tree (Places text) (length text) true h.marks (bounded text) s h.right (λ w. refl)
        (subst (Out text tree (Places text)) here (found.0, found.1, found.3)) in
        let clash : false ≡ true = sym l ∙ last ∙ goes in cc)
        (below_or found.2 top))

    by_last : stand.found ≡ false → (b : Bool) → stand.last ≡ b → b ≡ hits tree text
    by_last f true l =
        let out = leaves_sound text tree (Places text) (length text) true h.marks (bounded text) s h.right (λ t. omega arith) (sym last ∙ l) in
        sym (hits_from (length text) text tree out.0 (length text) out.1 out.2)
    by_last f false l = nowhere f l (hits tree text) refl

    by_found : (b : Bool) → stand.found ≡ b → answer stand ≡ hits tree text
    by_found true f = ap (λ (b : Bool). b || stand.last) f ∙ sym (h.some f)
    by_found false f = ap (λ (b : Bool). b || stand.last) f ∙ by_last f stand.last refl

follows_all : (tree : Tree) → is_sound tree ≡ true → (rest front : List ℕ) (stand : Stand) → Follows (front ++ rest) tree (length front) stand →
    answer (behind_bytes (all_steps tree) stand rest) ≡ hits tree (front ++ rest)
follows_all tree s [] front stand h =
    follows_last (front ++ []) tree stand s (subst (λ (n : ℕ). Follows (front ++ []) tree n stand) (ap length (sym (append-nil front))) h)
follows_all tree s (byte ∷ rest) front stand h =
    let one : List ℕ = byte ∷ [] in
    let text : List ℕ = front ++ (byte ∷ rest) in
    let inside : length front < length text = omega (arith, length-append front (byte ∷ rest)) in
    let next = follows_more text tree (length front) byte stand s inside (sym (get_or_at front byte rest 0 (length front) refl)) h in
    follows_all tree s rest (front ++ one) (behind_byte (all_steps tree) stand byte)
    (subst (λ (n : ℕ). Follows ((front ++ one) ++ rest) tree n (behind_byte (all_steps tree) stand byte)) (sym (length-append front one))
    (subst (λ (t : List ℕ). Follows t tree (length front + 1) (behind_byte (all_steps tree) stand byte)) (sym (append_assoc front one rest)) next))
    ∙ ap (hits tree) (append_assoc front one rest)

-- a scan of the pattern answers as the text does
pub scan_answers : (tree : Tree) → is_sound tree ≡ true → (text : List ℕ) → answer (behind_bytes (all_steps tree) (first_stand tree) text) ≡ hits tree text
scan_answers tree s text = follows_all tree s text [] (first_stand tree) (follows_first text tree s)

pub behind-append : (steps : List Step) (stand : Stand) (front rest : List ℕ) →
    behind_bytes steps stand (front ++ rest) ≡ behind_bytes steps (behind_bytes steps stand front) rest
behind-append steps stand [] rest = refl
behind-append steps stand (byte ∷ front) rest = behind-append steps (behind_byte steps stand byte) front rest

-- a match that is found stays found
pub found_stays : (steps : List Step) (stand : Stand) (bytes : List ℕ) → stand.found ≡ true → answer (behind_bytes steps stand bytes) ≡ true
found_stays steps stand [] h = or_left stand.found stand.last h
found_stays steps stand (byte ∷ bytes) h = found_stays steps (behind_byte steps stand byte) bytes (or_left stand.found _ h)

-- two scans that come to the same stand answer alike from there on
pub alike_behind : (steps : List Step) (here there : Stand) (rest piece more : List ℕ) → behind_bytes steps here rest ≡ behind_bytes steps there piece →
    answer (behind_bytes steps here (rest ++ more)) ≡ answer (behind_bytes steps there (piece ++ more))
alike_behind steps here there rest piece more e =
    ap answer (behind-append steps here rest more ∙ ap (λ (s : Stand). behind_bytes steps s more) e ∙ sym (behind-append steps there piece more))

-- two scans that have found nothing also answer alike from the same stand on
pub alike_found : (steps : List Step) (found : Bool) (here there : Stand) (rest piece more : List ℕ) → found ≡ false →
    behind_bytes steps (stand_with false here) rest ≡ behind_bytes steps (stand_with false there) piece →
    answer (behind_bytes steps (stand_with found here) (rest ++ more)) ≡ answer (behind_bytes steps (stand_with found there) (piece ++ more))
alike_found steps found here there rest piece more f e =
    ap (λ (b : Bool). answer (behind_bytes steps (stand_with b here) (rest ++ more))) f
    ∙ alike_behind steps (stand_with false here) (stand_with false there) rest piece more e
    ∙ ap (λ (b : Bool). answer (behind_bytes steps (stand_with b there) (piece ++ more))) (sym f)

-- one byte more leads on to the next stand
pub goes_by_one : (steps : List Step) (first here next : Stand) (bytes : List ℕ) (i : ℕ) → i < length bytes → behind_byte steps here (get_or bytes i 0) ≡ next →
    behind_bytes steps here (drop i bytes) ≡ behind_bytes steps first bytes → behind_bytes steps next (drop (i + 1) bytes) ≡ behind_bytes steps first bytes
goes_by_one steps first here next bytes i inside step e =
    ap (λ (s : Stand). behind_bytes steps s (drop (i + 1) bytes)) (sym step)
    ∙ ap (behind_bytes steps here) (sym (drop_more bytes i 0 inside)) ∙ e

-- a match that is found at a byte is found whatever follows the bytes
pub finds_here : (steps : List Step) (first here : Stand) (bytes : List ℕ) (i : ℕ) → i < length bytes →
    behind_bytes steps here (drop i bytes) ≡ behind_bytes steps first bytes → (behind_byte steps here (get_or bytes i 0)).found ≡ true →
    (more : List ℕ) → answer (behind_bytes steps first (bytes ++ more)) ≡ true
finds_here steps first here bytes i inside e found more =
    sym (alike_behind steps here first (drop i bytes) bytes more e)
    ∙ ap (λ (ys : List ℕ). answer (behind_bytes steps here (ys ++ more))) (drop_more bytes i 0 inside)
    ∙ found_stays steps (behind_byte steps here (get_or bytes i 0)) (drop (i + 1) bytes ++ more) found

-- where a scan stands behind a walk, if no match has ended in front of it
pub walk_stands : (steps : List Step) (stand : Stand) (byte : ℕ) (marks : List Bool) (flow : Flow) → stand.found ≡ false →
    flow ≡ (walked steps byte (a_walk all_flow [] stand.marks)).flow → marks ≡ (walked steps byte (a_walk all_flow [] stand.marks)).marks → flow.now ≡ false →
    behind_byte steps stand byte ≡ a_stand marks flow.last
walk_stands steps stand byte marks flow found e m now =
    ap (λ (b : Bool). stand_by (stand_with b stand) (walked steps byte (a_walk all_flow [] stand.marks))) found
    ∙ ap (λ (f : Flow). stand_by (stand_with false stand) (a_walk f [] (walked steps byte (a_walk all_flow [] stand.marks)).marks)) (sym e)
    ∙ ap (λ (ms : List Bool). stand_by (stand_with false stand) (a_walk flow [] ms)) (sym m)
    ∙ ap (λ (b : Bool). stand_with b (a_stand marks flow.last)) now

-- a scan that goes on to the end of a piece stands for the text with the piece behind it
pub goes_on_all : (tree : Tree) (text piece rest : List ℕ) (before after : Scan) → ScansOn before piece rest after → length rest ≡ 0 →
    StandsFor tree text before → StandsFor tree (text ++ piece) after
goes_on_all tree text piece (byte ∷ rest) before after goes none stands = absurd (omega (arith, none))
goes_on_all tree text piece [] before after goes none stands = record {
  answers = λ more.
      goes.answers more ∙ stands.answers (piece ++ more) ∙ ap (hits tree) (sym (append_assoc text piece more));
  pattern = λ bytes. goes.anew bytes ∙ stands.pattern bytes;
}

-- a scan that has found a match stands for the text with the whole piece behind it
pub goes_on_some : (tree : Tree) (text piece rest : List ℕ) (before after : Scan) → ScansOn before piece rest after → after.found ≡ true →
    StandsFor tree text before → StandsFor tree (text ++ piece) after
goes_on_some tree text piece rest before after goes found stands = record {
  answers = λ more.
      found_stays (map step_of after.steps.items) (stand_of after) more found
      ∙ sym (found_stays (map step_of after.steps.items) (stand_of after) (rest ++ more) found)
      ∙ goes.answers more ∙ stands.answers (piece ++ more) ∙ ap (hits tree) (sym (append_assoc text piece more));
  pattern = λ bytes. goes.anew bytes ∙ stands.pattern bytes;
}
