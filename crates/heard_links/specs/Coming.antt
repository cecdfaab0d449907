-- Whether a frame comes as it was sent.
use Rattle.std.specs.Prelude.{Bool, true, false}
use Rattle.heard_links.specs.declared.came.Came.{Came}
use Rattle.heard_links.specs.declared.came.Came.TheVariants as came

abbrev pub is_untouched : {V : Type 0} → Came V → Bool
is_untouched came.Untouched = true
is_untouched (came.Bad k) = false
is_untouched (came.Told v) = false
is_untouched came.Good = false
