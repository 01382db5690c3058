-- The cards of a shift, and the keys that they make.
use Rattle.std.specs.Prelude.{◌≡◌, ℕ, List, codes}
use Rattle.block.specs.Blocks.{to_block, xor_bytes}
use Rattle.keys.specs.Cards.{whole_key}
use Rattle.keys.specs.declared.WholeKey.{WholeKey}
use Rattle.mode.specs.Modes.{Sealing}

-- the chief's card, and the guard's for the key of XCB and for the two keys of XTS
abbrev pub chief : List ℕ
chief = codes "chief, card 0001"

abbrev pub xcb_card : List ℕ
xcb_card = codes "guard, card 0417"

abbrev pub xts_card : List ℕ
xts_card = codes "guard, card 0418"

abbrev pub tweak_card : List ℕ
tweak_card = codes "guard, card 0419"

-- the whole key of the chief's card and a guard's
abbrev pub key_with : List ℕ → WholeKey
key_with guard = whole_key (to_block (xor_bytes chief guard))

-- both modes of a pair seal and open as one meaning says
abbrev pub Both : {M : Type 0} → (M → Sealing) → M × M → Sealing → Type 0
Both sealing pair m = (sealing pair.0 ≡ m) × (sealing pair.1 ≡ m)
