-- The links when what goes with a signal is gone.
use Rattle.std.proofs.Common.{◌≡◌, ◌∙◌, Bool, true, false, Option, Some, None, refl, sym, true≢false}
use Rattle.proc_links.specs.Links.{AreLinks, partners_in}
use Rattle.proc_links.specs.declared.links.Links.{Links}
use Rattle.world_model.specs.Cells as cells
use Rattle.world_model.specs.Cells.{Contents}
use Rattle.world_model.specs.Changes.{after}
use Rattle.world_model.specs.Events.{Signal, Message, Exit, LinkExit, Down, Guarded, Elapsed}
use Rattle.world_model.specs.Guards.{ends_by_reply}
use Rattle.world_model.specs.Names.{Pid, Ref}
use Rattle.world_model.specs.Signals.{goes_with, pair_goes, reply_ends}
use Rattle.world_plans.specs.inside.Delivered.{is_of_link}

abbrev AreSame : Links → Links → Type 0
AreSame old new = (p : Pid) → partners_in new p ≡ partners_in old p

-- a reply that ends an alias leaves the links
after_reply : (b : Bool) (ref : Ref) (target : Option Pid) (v : Contents) (p : Pid) → after (reply_ends b ref target) v (cells.Links p) ≡ v (cells.Links p)
after_reply false ref target v p = refl
after_reply true ref None v p = refl
after_reply true ref (Some q) v p = refl

pub links_stay : (old new : Links) (s r : Pid) (x : Signal) → is_of_link x ≡ false → AreSame old new → (v : Contents) → AreLinks old v → AreLinks new (after (goes_with v s r x) v)
links_stay old new s r (Message message) other same v told p = same p ∙ told p
links_stay old new s r (Exit reason) other same v told p = same p ∙ told p
links_stay old new s r (LinkExit reason) other same v told p = absurd (true≢false other)
links_stay old new s r (Down ref reason) other same v told p = same p ∙ told p
links_stay old new s r (Guarded ref message) other same v told p = same p ∙ told p ∙ sym (after_reply (ends_by_reply r (v (cells.Guard ref))) ref (v (cells.Watch ref)) v p)
links_stay old new s r (Elapsed ref message) other same v told p = same p ∙ told p

-- a link goes with its signal
pub link_goes : (old copied new : Links) (s r : Pid) (x : Signal) → is_of_link x ≡ true → AreSame old copied → ((v : Contents) → AreLinks copied v → AreLinks new (after (pair_goes s r) v)) → (v : Contents) → AreLinks old v → AreLinks new (after (goes_with v s r x) v)
link_goes old copied new s r (LinkExit reason) is same goes v told = goes v (λ p. same p ∙ told p)
link_goes old copied new s r (Message message) is same goes v told = absurd (true≢false (sym is))
link_goes old copied new s r (Exit reason) is same goes v told = absurd (true≢false (sym is))
link_goes old copied new s r (Down ref reason) is same goes v told = absurd (true≢false (sym is))
link_goes old copied new s r (Guarded ref message) is same goes v told = absurd (true≢false (sym is))
link_goes old copied new s r (Elapsed ref message) is same goes v told = absurd (true≢false (sym is))
