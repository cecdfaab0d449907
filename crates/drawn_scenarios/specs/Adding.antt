-- What a call that draws leaves.
use Rattle.std.specs.Prelude.{◌≡◌, List, ◌++◌}
use Rattle.rand_pcg.specs.Lcg.{Lcg}
use Rattle.draws.specs.Draws.{Drawing}
use Rattle.drawn_scenarios.specs.declared.bout.Bout.{Bout}

-- x was drawn by the words of generator g, of which h is left
abbrev pub Draws : {A : Type 0} → A → Lcg → Lcg → Drawing A → Type 0
Draws x g h drawing = (x, h) ≡ drawing g

-- the drawn bouts were added to those before
pub record AddsBouts (before after : List Bout) (g h : Lcg) (drawing : Drawing (List Bout)) : Type 0 where
  pub bouts : after ≡ before ++ (drawing g).0
  pub rest : h ≡ (drawing g).1
