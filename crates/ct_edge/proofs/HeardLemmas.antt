-- What an ear has heard when one more piece came, and when nothing is left.
use Rattle.std.specs.Prelude.{◌≡◌, ℕ, List, [], ◌++◌, Option, Some, None}
use Rattle.std.specs.Io.KnownBytes.{Consumes}
use Rattle.std.proofs.Common.{refl, sym, ap, subst, ◌∙◌, append_assoc, append-nil}
use Rattle.ct_base.specs.Outside.{Becomes}
use Rattle.ct_edge.specs.Heard.{Hears}

-- the bytes heard and the bytes left now are the bytes left before
abbrev pub Parts : List ℕ → Option (List ℕ) → Option (List ℕ) → Type 0
Parts heard left now = Becomes left now (λ all rest. all ≡ heard ++ rest)

none-moved : (left : Option (List ℕ)) → Parts [] left left
none-moved None = tt
none-moved (Some xs) = refl

more-moved : (first second : List ℕ) (left mid now : Option (List ℕ)) → Parts first left mid → Parts second mid now → Parts (first ++ second) left now
more-moved first second None mid now was is = tt
more-moved first second (Some xs) None now was is = absurd was
more-moved first second (Some xs) (Some ys) None was is = absurd is
more-moved first second (Some xs) (Some ys) (Some zs) was is = was ∙ ap (λ (rest : List ℕ). first ++ rest) is ∙ sym (append_assoc first second zs)

-- the bytes that a read consumed have moved
pub consumed : (left now : Option (List ℕ)) (heard : List ℕ) → Consumes left now heard → Parts heard left now
consumed None now heard is = tt
consumed (Some xs) None heard is = absurd is
consumed (Some xs) (Some ys) heard is = is

-- nothing was heard so far
pub hears_none : (left : Option (List ℕ)) (ear : List ℕ → Type 0) → Hears left left ear ear
hears_none left ear = record {
  heard = [];
  moved = none-moved left;
  said = λ text so. subst ear (sym (append-nil text)) so;
}

-- one more piece was heard
pub hears_more : (left mid now : Option (List ℕ)) (before between after : List ℕ → Type 0) → Hears left mid before between → Hears mid now between after → Hears left now before after
hears_more left mid now before between after was is = record {
  heard = was.heard ++ is.heard;
  moved = more-moved was.heard is.heard left mid now was.moved is.moved;
  said = λ text so. subst after (append_assoc text was.heard is.heard) (is.said (text ++ was.heard) (was.said text so));
}

-- a piece was heard of what nothing is known of
pub hears_piece : (piece : List ℕ) (before now : List ℕ → Type 0) → ((text : List ℕ) → before text → now (text ++ piece)) → Hears None None before now
hears_piece piece before now said = record { heard = piece; moved = tt; said = said }
