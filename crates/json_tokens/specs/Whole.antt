-- What reading an integer gives. Assumes nothing.
use Rattle.std.specs.Prelude.{ℕ}

-- An integer and the place behind it; the place behind a plain value that is none; or the place where no JSON goes on.
pub data Whole : Type 0 where
  Is : ℕ → ℕ → Whole
  Not : ℕ → Whole
  No : ℕ → Whole
