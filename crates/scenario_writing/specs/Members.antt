-- The members of an object, some of which may be missing.
use Rattle.std.specs.Prelude.{ℕ, List, Option, Some, None}
use Rattle.serde_json.specs.Data.{Data, Members, put}

-- the members, with a value at this key where there is one
abbrev pub put_some : List ℕ → Option Data → Members → Members
put_some key None ms = ms
put_some key (Some d) ms = put key d ms
