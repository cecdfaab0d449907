-- The ticks of a slot.
use Rattle.std.specs.Prelude.{ℕ, Bool, not, ◌&&◌, nat_le}

-- the tick at which a frame arrives where nothing befalls it
abbrev pub on_time : ℕ
on_time = 15

-- a slot has the ticks from 0 to this one
abbrev pub last_tick : ℕ
last_tick = 30

-- a frame is in time from tick 10 to tick 20
abbrev pub is_in_window : ℕ → Bool
is_in_window tick = nat_le 10 tick && nat_le tick 20

-- whether a slot has this tick, and it lies outside the window
abbrev pub is_off_time : ℕ → Bool
is_off_time tick = nat_le tick last_tick && not (is_in_window tick)
