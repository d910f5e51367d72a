-- A system: worlds, and steps that change them.
use Rattle.std.specs.Prelude.{◌≡◌, Bool, true, Option, Some}

-- what a step does next, when two steps are independent, when two worlds agree in what can be observed, and which worlds the laws speak of
pub record System : Type 1 where
  pub World : Type 0
  pub Step : Type 0
  pub Event : Type 0
  pub next : World → Step → Option (Event × World)
  pub independent : World → Step → Step → Bool
  pub Same : World → World → Type 0
  pub IsReal : World → Type 0

module _ (S : System) where
  -- a step is enabled: its event, and the world after it
  pub record Takes (w : S.World) (a : S.Step) : Type 0 where
    pub event : S.Event
    pub world : S.World
    pub is_next : S.next w a ≡ Some (event, world)

  -- two steps that can be taken in either order: each with its own event, and the worlds after both agree
  pub record Commute (w : S.World) (a b : S.Step) : Type 0 where
    pub first : Takes w a
    pub second : Takes w b
    pub then_second : Takes first.world b
    pub then_first : Takes second.world a
    pub same_first : first.event ≡ then_first.event
    pub same_second : then_second.event ≡ second.event
    pub same_world : S.Same then_second.world then_first.world

  -- no step distinguishes worlds that agree, and independent steps commute
  pub record Laws : Type 0 where
    pub real_next : (w : S.World) (a : S.Step) → S.IsReal w → (t : Takes w a) → S.IsReal t.world
    pub same_self : (w : S.World) → S.Same w w
    pub same_chain : (u v w : S.World) → S.Same u v → S.Same v w → S.Same u w
    pub same_enabled : (v w : S.World) (a : S.Step) → S.IsReal v → S.IsReal w → S.Same v w → Takes v a → Takes w a
    pub same_event : (v w : S.World) (a : S.Step) → S.IsReal v → S.IsReal w → S.Same v w → (t : Takes v a) (u : Takes w a) → t.event ≡ u.event
    pub same_after : (v w : S.World) (a : S.Step) → S.IsReal v → S.IsReal w → S.Same v w → (t : Takes v a) (u : Takes w a) → S.Same t.world u.world
    pub commute : (w : S.World) (a b : S.Step) → S.IsReal w → S.independent w a b ≡ true → Commute w a b
