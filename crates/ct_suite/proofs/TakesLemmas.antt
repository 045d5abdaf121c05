-- Each step of a reader takes the bytes that it was given, or the values with them are too long.
use Rattle.std.proofs.Common.{◌≡◌, ℕ, ◌<◌, ◌≤◌, Bool, true, false, ◌==◌, List, [], ◌∷◌, ◌++◌, length, map, filter, Result, Ok, Err, OnOk, IfErr, refl, sym, ap, ◌∙◌, subst, append_assoc, append-nil, drop, get_or, ◌+◌}
use Rattle.std.proofs.lemmas.List.{at_drop_more}
use Rattle.std.proofs.lemmas.Result.{IfErr-weaker, on_ok_weaker}
use Rattle.ct_base.specs.Bytes.{backslash, semicolon}
use Rattle.ct_base.specs.Entries.{is_entry, parts_of, with_front}
use Rattle.ct_suite.specs.Values.{Variable, bare, part_text, argument_text, size}
use Rattle.ct_base.specs.Entries.{entries_of}
use Rattle.ct_lex.specs.declared.call.Part.{Part}
use Rattle.ct_suite.specs.Readers.{IsAtRest, IsReaderWithin, Releases, StopsFor, StopsIf, TakesEntries, are_too_long, entries_with, held_bytes, is_ended}
use Rattle.ct_suite.specs.declared.fault.ValueFault.{ValueFault}
use Rattle.ct_suite.specs.declared.limits.ValueLimits.{ValueLimits}
use Rattle.ct_suite.specs.declared.reader.Reader.{Reader}
use Rattle.ct_suite.specs.declared.value.Value.{Value}
use Rattle.ct_suite.proofs.ReaderLemmas.{StopsIf-then, parts-backslash, parts-ended, parts-other, too_long-front, too_long-more, with_parts, with_parts-all, with_parts-ended, with_parts-joined, with_parts-nothing}

-- a piece is read of an entry, or it makes the entry too long
module _ (limits : ValueLimits) (values : List Value) (text piece : List ℕ) (whole parts : List (List ℕ)) (is : whole ≡ with_front piece parts) where
  joined-same : (now : List ℕ) → now ≡ text ++ piece → with_parts values now parts ≡ with_parts values text whole
  joined-same now now_is =
      ap (λ t. with_parts values t parts) now_is
      ∙ with_parts-joined values text piece parts
      ∙ ap (with_parts values text) (sym is)

  joined-long : limits.value_bytes < length (text ++ piece) → are_too_long limits (with_parts values text whole) ≡ true
  joined-long long =
      ap (λ ps. are_too_long limits (with_parts values text ps)) is
      ∙ ap (are_too_long limits) (sym (with_parts-joined values text piece parts))
      ∙ too_long-front limits values (text ++ piece) parts long

abbrev pub Long : ValueLimits → List ℕ → Type 0
Long limits text = limits.value_bytes < length text

always : {P : Type 0} (result : Result (Unit {0}) ValueFault) → P → OnOk result P
always (Ok done) is = is
always (Err why) is = tt

-- a reader that has read more of its next value is within the limits, if that text is
within-joined : (limits : ValueLimits) (old new : Reader) → new.values ≡ old.values → new.bytes ≡ old.bytes → IsReaderWithin limits old → length new.text.items ≤ limits.value_bytes → IsReaderWithin limits new
within-joined limits old new values bytes within short = record {
  counted = bytes ∙ within.counted ∙ ap size (sym values);
  values = ap (are_too_long limits) values ∙ within.values;
  text = short;
}

-- bytes of an unquoted argument are read of an entry
pub takes-joined : (limits : ValueLimits) (old new : Reader) (front piece : List ℕ) (result : Result (Unit {0}) ValueFault) → new.values ≡ old.values → new.bytes ≡ old.bytes → IsReaderWithin limits old → ((rest : List ℕ) → parts_of (held_bytes old.held ++ (front ++ rest)) ≡ with_front piece (parts_of (held_bytes new.held ++ rest)))
    → OnOk result (new.text.items ≡ old.text.items ++ piece) → OnOk result (length new.text.items ≤ limits.value_bytes) → IfErr result (StopsIf (Long limits (old.text.items ++ piece))) → TakesEntries limits old new front result
takes-joined limits old new front piece result values bytes within same joined short stopped = record {
  within = on_ok_weaker result (within-joined limits old new values bytes within) short;
  taken = on_ok_weaker result (λ now rest. ap (λ vs. with_parts vs new.text.items (parts_of (held_bytes new.held ++ rest))) values ∙ joined-same limits old.values old.text.items piece (parts_of (held_bytes old.held ++ (front ++ rest))) (parts_of (held_bytes new.held ++ rest)) (same rest) new.text.items now) joined;
  stopped = IfErr-weaker result (StopsIf (Long limits (old.text.items ++ piece))) (λ why. (rest : List ℕ) → StopsFor limits (entries_with old (front ++ rest)) why) (λ why long rest. StopsIf-then why (joined-long limits old.values old.text.items piece (parts_of (held_bytes old.held ++ (front ++ rest))) (parts_of (held_bytes new.held ++ rest)) (same rest)) long) stopped;
}

-- a backslash that was held back becomes a byte of the entry
pub releases-joined : (limits : ValueLimits) (old new : Reader) (result : Result (Unit {0}) ValueFault) → new.values ≡ old.values → new.bytes ≡ old.bytes → IsReaderWithin limits old → old.held ≡ true → new.held ≡ false
    → OnOk result (new.text.items ≡ old.text.items ++ backslash ∷ []) → OnOk result (length new.text.items ≤ limits.value_bytes) → IfErr result (StopsIf (Long limits (old.text.items ++ backslash ∷ []))) → Releases limits old new result
releases-joined limits old new result values bytes within held free joined short stopped =
    let piece = backslash ∷ [] in
    let same : (rest : List ℕ) → is_ended rest ≡ false → parts_of (held_bytes old.held ++ rest) ≡ with_front piece (parts_of (held_bytes new.held ++ rest)) =
    λ rest apart. ap (λ h. parts_of (held_bytes h ++ rest)) held ∙ parts-backslash rest apart ∙ ap (λ h. with_front piece (parts_of (held_bytes h ++ rest))) (sym free) in record {
      within = on_ok_weaker result (within-joined limits old new values bytes within) short;
      held = always result free;
      taken = on_ok_weaker result (λ now rest apart. ap (λ vs. with_parts vs new.text.items (parts_of (held_bytes new.held ++ rest))) values ∙ joined-same limits old.values old.text.items piece (parts_of (held_bytes old.held ++ rest)) (parts_of (held_bytes new.held ++ rest)) (same rest apart) new.text.items now) joined;
      stopped = IfErr-weaker result (StopsIf (Long limits (old.text.items ++ piece))) (λ why. (rest : List ℕ) → is_ended rest ≡ false → StopsFor limits (entries_with old rest) why) (λ why long rest apart. StopsIf-then why (joined-long limits old.values old.text.items piece (parts_of (held_bytes old.held ++ rest)) (parts_of (held_bytes new.held ++ rest)) (same rest apart)) long) stopped;
    }

-- with no backslash held back, a byte that is no semicolon and no backslash belongs to the entry;
-- then: so does a semicolon behind a backslash that was held back
pub other-same : (byte : ℕ) (held : Bool) → held ≡ false → (byte == semicolon) ≡ false → (byte == backslash) ≡ false → (rest : List ℕ) → parts_of (held_bytes held ++ (byte ∷ rest)) ≡ with_front (byte ∷ []) (parts_of (held_bytes held ++ rest))
other-same byte held free other plain rest =
    ap (λ h. parts_of (held_bytes h ++ (byte ∷ rest))) free
    ∙ parts-other byte rest other plain
    ∙ ap (λ h. with_front (byte ∷ []) (parts_of (held_bytes h ++ rest))) (sym free)

escape-is : (rest : List ℕ) → parts_of (backslash ∷ semicolon ∷ rest) ≡ with_front (semicolon ∷ []) (parts_of rest)
escape-is rest = refl

pub escape-same : (byte : ℕ) (held : Bool) → held ≡ true → byte ≡ semicolon → (rest : List ℕ) → parts_of (held_bytes held ++ (byte ∷ rest)) ≡ with_front (byte ∷ []) (parts_of rest)
escape-same byte held is ends rest =
    (λ i. parts_of (held_bytes (is i) ++ (ends i ∷ rest)))
    ∙ escape-is rest
    ∙ ap (λ b. with_front (b ∷ []) (parts_of rest)) (sym ends)

-- a byte behind a backslash that was released first
pub takes-released : (limits : ValueLimits) (old between new : Reader) (byte : ℕ) (result : Result (Unit {0}) ValueFault) → ((rest : List ℕ) → is_ended rest ≡ false → entries_with between rest ≡ entries_with old rest) → (byte == semicolon) ≡ false → TakesEntries limits between new (byte ∷ []) result → TakesEntries limits old new (byte ∷ []) result
takes-released limits old between new byte result released other takes = record {
  within = takes.within;
  taken = on_ok_weaker result (λ on rest. on rest ∙ released (byte ∷ rest) other) takes.taken;
  stopped = IfErr-weaker result (λ why. (rest : List ℕ) → StopsFor limits (entries_with between (byte ∷ rest)) why) (λ why. (rest : List ℕ) → StopsFor limits (entries_with old (byte ∷ rest)) why) (λ why stops rest. subst (λ vs. StopsFor limits vs why) (released (byte ∷ rest) other) (stops rest)) takes.stopped;
}

-- a semicolon ends an entry
abbrev pub with_entry : Reader → List Value
with_entry reader = reader.values ++ map bare (filter is_entry (reader.text.items ∷ []))

ended-same : (old new : Reader) (byte : ℕ) (rest : List ℕ) → byte ≡ semicolon → old.held ≡ false → new.values ≡ with_entry old → new.text.items ≡ [] → new.held ≡ old.held → with_parts (with_entry old) [] (parts_of rest) ≡ entries_with old (byte ∷ rest) → entries_with new rest ≡ entries_with old (byte ∷ rest)
ended-same old new byte rest ends free values empty held same =
    (λ i. with_parts (values i) (empty i) (parts_of (held_bytes ((held ∙ free) i) ++ rest))) ∙ same

with-ended : (old : Reader) (byte : ℕ) (rest : List ℕ) → byte ≡ semicolon → old.held ≡ false → with_parts (with_entry old) [] (parts_of rest) ≡ entries_with old (byte ∷ rest)
with-ended old byte rest ends free =
    with_parts-ended old.values old.text.items (parts_of rest)
    ∙ ap (with_parts old.values old.text.items) (sym (parts-ended rest))
    ∙ (λ i. with_parts old.values old.text.items (parts_of (held_bytes (sym free i) ++ (sym ends i ∷ rest))))

pub takes-ended : (limits : ValueLimits) (old new : Reader) (byte : ℕ) (result : Result (Unit {0}) ValueFault) → byte ≡ semicolon → old.held ≡ false → OnOk result (IsReaderWithin limits new) → OnOk result (new.values ≡ with_entry old) → OnOk result (new.text.items ≡ []) → OnOk result (new.held ≡ old.held) → IfErr result (StopsFor limits (with_entry old)) → TakesEntries limits old new (byte ∷ []) result
takes-ended limits old new byte (Ok done) ends free within values empty held stopped = record {
  within = within;
  taken = λ rest. ended-same old new byte rest ends free values empty held (with-ended old byte rest ends free);
  stopped = tt;
}
takes-ended limits old new byte (Err why) ends free within values empty held stopped = record {
  within = tt;
  taken = tt;
  stopped = λ rest. subst (λ vs. StopsFor limits vs why) (with-ended old byte rest ends free) (StopsIf-then why (too_long-more limits (with_entry old) (map bare (filter is_entry (with_front [] (parts_of rest))))) stopped);
}

-- `between` has read the bytes of `whole` up to `behind`, which is still to be read
abbrev Stands : Reader → Reader → List ℕ → List ℕ → Type 0
Stands old between whole behind = (rest : List ℕ) → entries_with between (behind ++ rest) ≡ entries_with old (whole ++ rest)

piece-next : (old between : Reader) (whole behind piece more : List ℕ) → behind ≡ piece ++ more → Stands old between whole behind → (rest : List ℕ) → entries_with between (piece ++ (more ++ rest)) ≡ entries_with old (whole ++ rest)
piece-next old between whole behind piece more is stands rest =
    ap (entries_with between) (sym (append_assoc piece more rest) ∙ ap (λ bytes. bytes ++ rest) (sym is)) ∙ stands rest

pub stands-on : (old between new : Reader) (whole behind piece more : List ℕ) → behind ≡ piece ++ more → Stands old between whole behind → ((rest : List ℕ) → entries_with new rest ≡ entries_with between (piece ++ rest)) → Stands old new whole more
stands-on old between new whole behind piece more is stands taken rest =
    taken (more ++ rest) ∙ piece-next old between whole behind piece more is stands rest

pub takes-stopped : (limits : ValueLimits) (old between new : Reader) (whole behind piece more : List ℕ) (why : ValueFault) → behind ≡ piece ++ more → Stands old between whole behind → ((rest : List ℕ) → StopsFor limits (entries_with between (piece ++ rest)) why) → TakesEntries limits old new whole (Err why)
takes-stopped limits old between new whole behind piece more why is stands stops = record {
  within = tt;
  taken = tt;
  stopped = λ rest. subst (λ vs. StopsFor limits vs why) (piece-next old between whole behind piece more is stands rest) (stops (more ++ rest));
}

-- at the end of the bytes all of them are taken
pub takes-done : (limits : ValueLimits) (old new : Reader) (whole behind : List ℕ) → behind ≡ [] → IsReaderWithin limits new → Stands old new whole behind → TakesEntries limits old new whole (Ok tt)
takes-done limits old new whole behind is within stands = record {
  within = within;
  taken = λ rest. ap (λ bytes. entries_with new (bytes ++ rest)) (sym is) ∙ stands rest;
  stopped = tt;
}

-- the next part of an argument
pub texts-next : (variables : List Variable) (parts : List Part) (i : ℕ) (part : Part) (text : List ℕ) → i < length parts → part ≡ get_or parts i part → text ≡ part_text variables part → argument_text variables (drop i parts) ≡ text ++ argument_text variables (drop (i + 1) parts)
texts-next variables parts i part text within is text_is =
    at_drop_more (argument_text variables) parts i part within
    ∙ ap (λ p. part_text variables p ++ argument_text variables (drop (i + 1) parts)) (sym is)
    ∙ ap (λ t. t ++ argument_text variables (drop (i + 1) parts)) (sym text_is)

-- all bytes of an argument, read by a reader at rest
rest-all : (limits : ValueLimits) (old : Reader) (text : List ℕ) → IsAtRest limits old → entries_with old (text ++ []) ≡ old.values ++ map bare (entries_of text)
rest-all limits old text rest =
    (λ i. with_parts old.values (rest.text i) (parts_of (held_bytes (rest.held i) ++ append-nil text i)))
    ∙ with_parts-all old.values text

-- the last entry, behind a backslash that was released first
pub entry-last : (old released : Reader) → released.held ≡ false → entries_with released [] ≡ entries_with old [] → with_entry released ≡ entries_with old []
entry-last old released free same =
    sym (with_parts-nothing released.values released.text.items)
    ∙ ap (λ h. with_parts released.values released.text.items (parts_of (held_bytes h ++ []))) (sym free)
    ∙ same

-- all bytes of an argument, read by a reader that was at rest
module _ (limits : ValueLimits) (old : Reader) (text : List ℕ) (rest : IsAtRest limits old) where
  pub entries-stopped : (why : ValueFault) → StopsFor limits (entries_with old (text ++ [])) why → StopsFor limits (old.values ++ map bare (entries_of text)) why
  entries-stopped why stops = subst (λ vs. StopsFor limits vs why) (rest-all limits old text rest) stops

  pub entries-ended : (mid new : Reader) (result : Result (Unit {0}) ValueFault) → entries_with mid [] ≡ entries_with old (text ++ []) → OnOk result (new.values ≡ entries_with mid []) → OnOk result (new.values ≡ old.values ++ map bare (entries_of text))
  entries-ended mid new result taken values = on_ok_weaker result (λ is. is ∙ taken ∙ rest-all limits old text rest) values

  pub entries-long : (mid : Reader) (result : Result (Unit {0}) ValueFault) → entries_with mid [] ≡ entries_with old (text ++ []) → IfErr result (StopsFor limits (entries_with mid [])) → IfErr result (StopsFor limits (old.values ++ map bare (entries_of text)))
  entries-long mid result taken stopped =
      IfErr-weaker result (StopsFor limits (entries_with mid [])) (StopsFor limits (old.values ++ map bare (entries_of text))) (λ why stops. subst (λ vs. StopsFor limits vs why) (taken ∙ rest-all limits old text rest) stops) stopped
