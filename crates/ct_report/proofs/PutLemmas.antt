-- What was put in a row: pieces that are added, and beginnings of pieces, one behind the other.
use Rattle.std.proofs.Common.{rules, ◌≡◌, ◌∙◌, sym, ap, subst, ℕ, ◌+◌, ◌<◌, List, [], ◌∷◌, ◌++◌, length, get_or, take, drop, Option, refl, append_assoc, arith}
use Rattle.std.specs.Prelude.{Some, None, Result, Ok, Err, OnErr, IsErrOf}
use Rattle.std.proofs.lemmas.List.{append-nil, take_more, take-append-drop}
use Rattle.std.proofs.lemmas.Grind.{flat_map-append}
use Rattle.ct_base.specs.declared.sink.SinkFault.{SinkFault}
use Rattle.ct_base.specs.declared.sink.SinkFault.TheVariants as Sinks
use Rattle.ct_base.specs.Outside.{Adds, AddsPrefix, Becomes, HasCause, Puts, PutsEach, SinkTell}
use Rattle.ct_report.specs.PutLines.{PutsLines}
use Rattle.ct_report.specs.Report.{text_of}
use Rattle.ct_report.proofs.LineLemmas.{text_of-append}

-- adding a piece and then another adds both in a row
pub adds_then_adds : {A : Type 0} (old mid new : Option (List A)) (a b : List A) → Becomes old mid (Adds a) → Becomes mid new (Adds b) → Becomes old new (Adds (a ++ b))
adds_then_adds None mid new a b first second = tt
adds_then_adds (Some before) None new a b first second = absurd first
adds_then_adds (Some before) (Some between) None a b first second = absurd second
adds_then_adds {A = A} (Some before) (Some between) (Some now) a b first second =
    second ∙ ap (λ (xs : List A). xs ++ b) first ∙ append_assoc before a b

-- a piece and then a beginning of one more are a beginning of both in a row
pub adds_then_prefix : {A : Type 0} (old mid new : Option (List A)) (a b : List A) → Becomes old mid (Adds a) → Becomes mid new (AddsPrefix b) → Becomes old new (AddsPrefix (a ++ b))
adds_then_prefix None mid new a b first second = tt
adds_then_prefix (Some before) None new a b first second = absurd first
adds_then_prefix (Some before) (Some between) None a b first second = absurd second
adds_then_prefix {A = A} (Some before) (Some between) (Some now) a b first second = record {
  kept = a ++ second.kept;
  lost = second.lost;
  parts = ap (λ (xs : List A). a ++ xs) second.parts ∙ sym (append_assoc a second.kept second.lost);
  is = second.is ∙ ap (λ (xs : List A). xs ++ second.kept) first ∙ append_assoc before a second.kept;
}

-- a beginning of a piece is one of the piece with more behind it
pub prefix_of_more : {A : Type 0} (old new : Option (List A)) (a b : List A) → Becomes old new (AddsPrefix a) → Becomes old new (AddsPrefix (a ++ b))
prefix_of_more None new a b put = tt
prefix_of_more (Some before) None a b put = absurd put
prefix_of_more {A = A} (Some before) (Some now) a b put = record {
  kept = put.kept;
  lost = put.lost ++ b;
  parts = ap (λ (xs : List A). xs ++ b) put.parts ∙ append_assoc put.kept put.lost b;
  is = put.is;
}

-- the empty beginning is one of each piece
pub prefix_of_none : {A : Type 0} (old : Option (List A)) (a : List A) → Becomes old old (AddsPrefix a)
prefix_of_none None a = tt
prefix_of_none (Some before) a = record { kept = []; lost = a; parts = refl; is = sym (append-nil before) }

-- what stays as it is has the empty piece added
pub adds_none : {A : Type 0} (old : Option (List A)) → Becomes old old (Adds [])
adds_none None = tt
adds_none (Some before) = sym (append-nil before)

-- a whole piece is a beginning of the piece with more behind it
pub prefix_of_adds : {A : Type 0} (old new : Option (List A)) (a b : List A) → Becomes old new (Adds a) → Becomes old new (AddsPrefix (a ++ b))
prefix_of_adds None new a b put = tt
prefix_of_adds (Some before) None a b put = absurd put
prefix_of_adds (Some before) (Some now) a b put = record { kept = a; lost = b; parts = refl; is = put }

-- whole pieces were put and no call failed, and then a put of one more failed
pub puts_fails : (old mid new : SinkTell) (front piece rest : List ℕ) (fault : SinkFault) → Becomes old.written mid.written (Adds front) → mid.faults ≡ old.faults → Puts piece mid new (Err fault) → Puts (front ++ piece ++ rest) old new (Err fault)
puts_fails old mid new front piece rest fault put same last = record {
  ok = tt;
  err = prefix_of_more old.written new.written (front ++ piece) rest (adds_then_prefix old.written mid.written new.written front piece put last.err);
  cause = rw (sym same) last.cause;
}

-- where memory was wanting, nothing was put
pub puts_none : (sink : SinkTell) (text : List ℕ) → Puts text sink sink (Err Sinks.NoMemory)
puts_none sink text = record {
  ok = tt;
  err = prefix_of_none sink.written text;
  cause = search rules;
}

-- lines are those in front of one, that one, and those behind it
pub text_of-split : (lines : List (List ℕ)) (at : ℕ) (other : List ℕ) → at < length lines → text_of lines ≡ text_of (take at lines) ++ get_or lines at other ++ text_of (drop (at + 1) lines)
text_of-split lines at other within =
    ap text_of (sym (take-append-drop (at + 1) lines)) ∙ flat_map-append (λ (line : List ℕ). line) (take (at + 1) lines) (drop (at + 1) lines) ∙ ap (λ (front : List ℕ). front ++ text_of (drop (at + 1) lines)) (ap text_of (take_more lines at other within) ∙ flat_map-append (λ (line : List ℕ). line) (take at lines) (get_or lines at other ∷ []) ∙ ap (λ (last : List ℕ). text_of (take at lines) ++ last) (append-nil (get_or lines at other)))

-- a list is what stands in front of an element, that one, and what stands behind it
split_at : {A : Type 0} (xs : List A) (at : ℕ) (other : A) → at < length xs → xs ≡ take at xs ++ get_or xs at other ∷ [] ++ drop (at + 1) xs
split_at {A = A} xs at other within = sym (take-append-drop (at + 1) xs) ∙ ap (λ (front : List A). front ++ drop (at + 1) xs) (take_more xs at other within)

-- first lines were put, and then the put of one more failed
pub each_fails : (old mid new : SinkTell) (lines : List (List ℕ)) (at : ℕ) (other : List ℕ) (fault : SinkFault) → at < length lines → Becomes old.pieces mid.pieces (Adds (take at lines)) → PutsEach (get_or lines at other ∷ []) mid new (Err fault) → PutsEach lines old new (Err fault)
each_fails old mid new lines at other fault within put last = record {
  ok = tt;
  err = subst (λ (ls : List (List ℕ)). Becomes old.pieces new.pieces (AddsPrefix ls)) (sym (split_at lines at other within)) (prefix_of_more old.pieces new.pieces (take at lines ++ get_or lines at other ∷ []) (drop (at + 1) lines) (adds_then_prefix old.pieces mid.pieces new.pieces (take at lines) (get_or lines at other ∷ []) put last.err));
}

-- where memory was wanting, no line was put
pub each_none : (sink : SinkTell) (lines : List (List ℕ)) → PutsEach lines sink sink (Err Sinks.NoMemory)
each_none sink lines = record { ok = tt; err = prefix_of_none sink.pieces lines }

-- what holds in any case holds after an error
pub on_err : {T E P : Type 0} (result : Result T E) → P → OnErr result P
on_err (Ok value) holds = tt
on_err (Err fault) holds = holds

no_fault : IsErrOf {T = Unit {0}} {E = SinkFault} (Ok tt) Sinks.Failed → ⊥
no_fault is = cc

-- a put that succeeds leaves the count of faults
pub same_count : (old new : SinkTell) (a : List ℕ) → Puts a old new (Ok tt) → new.faults ≡ old.faults
same_count old new a put = put.cause.unfailed no_fault

-- a put of no bytes changes nothing
pub puts_nothing : (sink : SinkTell) → Puts [] sink sink (Ok tt)
puts_nothing sink = record {
  ok = adds_none sink.written;
  err = tt;
  cause = record { later = omega arith; failed = λ is. absurd (no_fault is); unfailed = λ none. refl };
}

-- a whole text was put, and then one more text
pub puts_then : (old mid new : SinkTell) (a b : List ℕ) (result : Result (Unit {0}) SinkFault) → Puts a old mid (Ok tt) → Puts b mid new result → Puts (a ++ b) old new result
puts_then old mid new a b (Ok tt) first second = record {
  ok = adds_then_adds old.written mid.written new.written a b first.ok second.ok;
  err = tt;
  cause = subst (λ (n : ℕ). HasCause {T = Unit {0}} Sinks.Failed n new.faults (Ok tt)) (same_count old mid a first) second.cause;
}
puts_then old mid new a b (Err fault) first second = record {
  ok = tt;
  err = adds_then_prefix old.written mid.written new.written a b first.ok second.err;
  cause = subst (λ (n : ℕ). HasCause {T = Unit {0}} Sinks.Failed n new.faults (Err fault)) (same_count old mid a first) second.cause;
}

-- where a text was not put whole, the text with more behind it was not either
pub puts_more : (old new : SinkTell) (a b : List ℕ) (fault : SinkFault) → Puts a old new (Err fault) → Puts (a ++ b) old new (Err fault)
puts_more old new a b fault put = record {
  ok = tt;
  err = prefix_of_more old.written new.written a b put.err;
  cause = put.cause;
}

-- memory was wanting after a whole text was put
pub puts_stop : (old new : SinkTell) (a b : List ℕ) → Puts a old new (Ok tt) → Puts (a ++ b) old new (Err Sinks.NoMemory)
puts_stop old new a b put = record {
  ok = tt;
  err = prefix_of_adds old.written new.written a b put.ok;
  cause = record { later = put.cause.later; failed = λ is. absurd (no is); unfailed = λ none. same_count old new a put };
}
  where
    no : IsErrOf {T = Unit {0}} {E = SinkFault} (Err Sinks.NoMemory) Sinks.Failed → ⊥
    no is = cc

-- a put of a text is one of an equal text
pub puts_same : (old new : SinkTell) (a b : List ℕ) (result : Result (Unit {0}) SinkFault) → a ≡ b → Puts a old new result → Puts b old new result
puts_same old new a b result is put = subst (λ (t : List ℕ). Puts t old new result) is put

-- a put of lines is one of equal lines
pub lines_as : {lines named : List (List ℕ)} {old new : SinkTell} {result : Result (Unit {0}) SinkFault} → named ≡ lines → PutsLines named old new result → PutsLines lines old new result
lines_as {old = old} {new = new} {result = result} is put = subst (λ (ls : List (List ℕ)). PutsLines ls old new result) is put

-- one line is one put
pub one_line : (old new : SinkTell) (piece : List ℕ) (result : Result (Unit {0}) SinkFault) → Puts piece old new result → PutsEach (piece ∷ []) old new result → PutsLines (piece ∷ []) old new result
one_line old new piece result put each = record { bytes = puts_same old new piece (piece ++ []) result (sym (append-nil piece)) put; each = each }

-- lines were put whole, and then more lines
pub lines_then : (old mid new : SinkTell) (a b : List (List ℕ)) (result : Result (Unit {0}) SinkFault) → PutsLines a old mid (Ok tt) → PutsLines b mid new result → PutsLines (a ++ b) old new result
lines_then old mid new a b (Ok tt) first second = record {
  bytes = puts_same old new (text_of a ++ text_of b) (text_of (a ++ b)) (Ok tt) (sym (text_of-append a b)) (puts_then old mid new (text_of a) (text_of b) (Ok tt) first.bytes second.bytes);
  each = record { ok = adds_then_adds old.pieces mid.pieces new.pieces a b first.each.ok second.each.ok; err = tt };
}
lines_then old mid new a b (Err fault) first second = record {
  bytes = puts_same old new (text_of a ++ text_of b) (text_of (a ++ b)) (Err fault) (sym (text_of-append a b)) (puts_then old mid new (text_of a) (text_of b) (Err fault) first.bytes second.bytes);
  each = record { ok = tt; err = adds_then_prefix old.pieces mid.pieces new.pieces a b first.each.ok second.each.err };
}

-- one line was put, and then another
pub two_lines : (old mid new : SinkTell) (one two : List ℕ) (result : Result (Unit {0}) SinkFault) → PutsLines (one ∷ []) old mid (Ok tt) → PutsLines (two ∷ []) mid new result → PutsLines (one ∷ two ∷ []) old new result
two_lines old mid new one two result first second = lines_then old mid new (one ∷ []) (two ∷ []) result first second

-- where lines were not put whole, the lines with more behind them were not either
pub lines_more : (old new : SinkTell) (a b : List (List ℕ)) (fault : SinkFault) → PutsLines a old new (Err fault) → PutsLines (a ++ b) old new (Err fault)
lines_more old new a b fault put = record {
  bytes = puts_same old new (text_of a ++ text_of b) (text_of (a ++ b)) (Err fault) (sym (text_of-append a b)) (puts_more old new (text_of a) (text_of b) fault put.bytes);
  each = record { ok = tt; err = prefix_of_more old.pieces new.pieces a b put.each.err };
}

-- memory was wanting after whole lines were put
pub lines_stop : (old new : SinkTell) (a b : List (List ℕ)) → PutsLines a old new (Ok tt) → PutsLines (a ++ b) old new (Err Sinks.NoMemory)
lines_stop old new a b put = record {
  bytes = puts_same old new (text_of a ++ text_of b) (text_of (a ++ b)) (Err Sinks.NoMemory) (sym (text_of-append a b)) (puts_stop old new (text_of a) (text_of b) put.bytes);
  each = record { ok = tt; err = prefix_of_adds old.pieces new.pieces a b put.each.ok };
}

-- where memory was wanting, no line was put
pub lines_none : (sink : SinkTell) (lines : List (List ℕ)) → PutsLines lines sink sink (Err Sinks.NoMemory)
lines_none sink lines = record { bytes = puts_none sink (text_of lines); each = each_none sink lines }

-- a put of no lines changes nothing
pub lines_nothing : (sink : SinkTell) → PutsLines [] sink sink (Ok tt)
lines_nothing sink = record { bytes = puts_nothing sink; each = record { ok = adds_none sink.pieces; err = tt } }
