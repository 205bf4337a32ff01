-- What a read that failed did to a reader and a buffer. Assumes nothing.
use Rattle.std.specs.Prelude.{ℕ, ◌≤◌, List, length, take}
use Rattle.std.specs.declared.option.Option.{Option}
use Rattle.std.specs.Io.KnownBytes.{Consumes}

-- What the reader lost stands at the buffer's front.
abbrev pub ConsumesInto : Option (List ℕ) → Option (List ℕ) → List ℕ → Type 0
ConsumesInto old new buffer = (n : ℕ) × (n ≤ length buffer) × Consumes old new (take n buffer)
