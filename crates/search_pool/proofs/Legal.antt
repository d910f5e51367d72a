-- Legal lists grow at their end.
use Rattle.std.proofs.Common.{ℕ, List, [], ◌∷◌, ◌++◌, refl, subst}
use Rattle.search_jobs.specs.Explorations.{ExplorationSeen}
use Rattle.search_pool.specs.Machine.{Standing, Entry, StepsBy, Leads}

pub leads_more : (e : ExplorationSeen) (limit : ℕ) (s : Standing) (xs : List Entry) (t : Standing) (x : Entry) (u : Standing) → Leads e limit s xs t → StepsBy e limit t x u → Leads e limit s (xs ++ x ∷ []) u
leads_more e limit s [] t x u is step = (u, subst (λ (m : Standing). StepsBy e limit m x u) is step, refl)
leads_more e limit s (y ∷ ys) t x u p step = (p.0, p.1, leads_more e limit p.0 ys t x u p.2 step)
