-- Keys from cards. A card is 16 bytes; a whole key is its two cards, XORed byte by byte.
use Rattle.std.specs.Prelude.{◌≡◌, ℕ, ◌⊎◌, List, length, Ok, Err, Result, ◌≢◌}
use Rattle.block.specs.Blocks.{to_bytes, xor_bytes}
use Rattle.refusal.specs.declared.Refusal.{Refusal}
use Rattle.refusal.specs.Refusals.{number_of}
use Rattle.keys.specs.declared.HalfKey.{HalfKey}
use Rattle.keys.specs.declared.RefusedCard.{RefusedCard}
use Rattle.keys.specs.declared.WholeKey.{WholeKey}

-- a whole key, by its block
abbrev pub whole_key : ℕ → WholeKey
whole_key n = record { value = n }

-- the first card of a half key, and the bytes of a whole key
abbrev pub card_of : HalfKey → List ℕ
card_of h = to_bytes h.card

abbrev pub key_of : WholeKey → List ℕ
key_of w = to_bytes w.value

-- the bytes c are a card, whose block is n
pub record Card (c : List ℕ) (n : ℕ) : Type 0 where
  pub long : length c ≡ 16
  pub bytes : to_bytes n ≡ c

-- the first card: a half key of that card, or 5 exactly where it is no card
abbrev pub LaidFirst : List ℕ → Result HalfKey Refusal → Type 0
LaidFirst c (Ok h) = (length c ≡ 16) × (card_of h ≡ c)
LaidFirst c (Err e) = (number_of e ≡ 5) × (length c ≢ 16)

-- why a second card c is refused on a first card f: 5, no card, and after that 6, the first card again
abbrev pub TurnedDown : List ℕ → List ℕ → ℕ → Type 0
TurnedDown f c n = ((n ≡ 5) × (length c ≢ 16)) ⊎ ((n ≡ 6) × (length c ≡ 16) × (c ≡ f))

-- the second card: the two cards XORed, or the half key back with the refusal
abbrev pub LaidSecond : HalfKey → List ℕ → Result WholeKey RefusedCard → Type 0
LaidSecond h c (Ok w) = (length c ≡ 16) × (c ≢ card_of h) × (key_of w ≡ xor_bytes (card_of h) c)
LaidSecond h c (Err r) = (r.half ≡ h) × TurnedDown (card_of h) c (number_of r.refusal)
