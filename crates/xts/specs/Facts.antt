-- What XTS is held to.
use Rattle.std.specs.Prelude.{ℕ}
use Rattle.cipher.specs.Ciphers.{Undoing}
use Rattle.mode.specs.Modes.{Lawful}
use Rattle.xts.specs.Xts.{by_functions}

-- XTS opens what it sealed and seals what it opened, by the laws of the functions of its two keys alone
abbrev pub Undone : Type 0
Undone = (e d s o : ℕ → ℕ) → Undoing e d → Undoing s o → Lawful (by_functions e d s)
