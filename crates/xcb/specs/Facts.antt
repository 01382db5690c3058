-- What XCB is held to.
use Rattle.std.specs.Prelude.{ℕ}
use Rattle.cipher.specs.Ciphers.{Undoing}
use Rattle.mode.specs.Modes.{Lawful}
use Rattle.xcb.specs.Xcb.{by_functions}

-- XCB opens what it sealed and seals what it opened, by the laws of the functions of its three keys alone and for every hash key:
-- nothing is asked of the hash
abbrev pub Undone : Type 0
Undone =
    (e e⁻ d d⁻ c c⁻ : ℕ → ℕ) (h : ℕ) → Undoing e e⁻ → Undoing d d⁻ → Undoing c c⁻ → Lawful (by_functions e e⁻ d d⁻ c h)
