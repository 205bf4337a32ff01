-- What reading a token gives. Assumes nothing.
use Rattle.std.specs.Prelude.{ℕ, Result, Ok, Err}
use Rattle.json_tokens.specs.declared.NotJson.{NotJson}

-- The place behind what was read, or the first place whose byte no JSON text goes on with: the length where the text ends
-- too soon.
pub data Read : Type 0 where
  At : ℕ → Read
  No : ℕ → Read

-- What the code's answer says.
abbrev pub as_read : Result ℕ NotJson → Read
as_read (Ok n) = At n
as_read (Err e) = No e.0
