-- What is printed of an error, in bytes. Assumes nothing.
use Rattle.std.specs.Prelude.{ℕ, List, ◌++◌, codes}
use Rattle.std.specs.Fmt.{decimal}
use Rattle.json_tokens.specs.declared.NotJson.{NotJson}

abbrev pub not_json_text : NotJson → List ℕ
not_json_text e = codes "no JSON goes on at " ++ decimal e.0
