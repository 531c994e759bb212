-- Where the file of counters is.
use Rattle.std.specs.Prelude.{ℕ, List, []}
use Rattle.std.specs.Option.{unwrap_or}
use Rattle.std.specs.Path.{path_join, path_parent}

-- a path is taken from the folder of the settings' own file, unless it is absolute
abbrev pub counters_path : (file path : List ℕ) → List ℕ
counters_path file path = path_join (unwrap_or (path_parent file) []) path
