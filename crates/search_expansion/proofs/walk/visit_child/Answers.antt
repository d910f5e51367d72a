use Rattle.std.proofs.Common.{◌≡◌, ◌∙◌, ◌==◌, ◌&&◌, ℕ, Bool, false, ◌∷◌, [], ◌-◌, inl, Some, length, slice_index_or, refl, sym, ap, subst}
use Rattle.std.proofs.lemmas.Bool.{eqb-true}
use Rattle.std.proofs.lemmas.Option.{get_or_from_slice_get}
use Rattle.std.specs.List.{slice_get}
use Rattle.world_model.specs.Asking.{program_of}
use Rattle.world_model.specs.Run.{next_event}
use Rattle.tree_cuts.specs.Cuts.{goes_on}
use Rattle.search_expansion.specs.inside.Walks.{IsFrame, node_seen}
use Rattle.search_expansion.specs.declared.frame.Frame.{Frame}
use Rattle.search_expansion.proofs.Stacks.{last_is}
use Rattle.search_expansion.proofs.walk.visit_child.Goals as goal

pub returns-then-leads_to_a_leaf : goal.returns-then-leads_to_a_leaf
returns-then-leads_to_a_leaf c = λ below top is m h e holds next.
    let old = c.args.frames.now.items in
    let frame = c.in-Some.frame.now in
    let found : Some frame ≡ slice_get old (length old - 1) = c.in-Some.ensures.value ∙ (λ i. slice_get (c.deref.ensures.value i) (length (c.deref.ensures.value i) - 1)) in
    let looked : frame ≡ slice_index_or old (length old - 1) frame = sym (get_or_from_slice_get old (length old - 1) frame frame (sym found)) in
    let same : frame ≡ top = last_is old below top frame is looked in
    let deep : top.left ≡ 0 = ap (λ (f : Frame). f.left) (sym same) ∙ eqb-true frame.left 0 (sym c.leads_to_a_leaf.ensures ∙ c.if-leads_to_a_leaf.true) in
    record {
      child = record { program = program_of m; history = e ∷ h; slept = []; left = 0 };
      rest = c.pass_child.new.frames.items;
      passes = c.in_ok-pass_child.ensures below top is;
      program = refl;
      history = refl;
      slept = λ more. absurd (more deep);
      left = sym deep;
      opens = inl (refl, inl refl);
      adds = c.in_ok-is_cut.ensures.adds m h e (subst (IsFrame m h) (sym same) holds) (ap (λ (f : Frame). next_event (program_of m) h f.next.value.step) same ∙ next);
      cut_is = c.in_ok-is_cut.ensures.lives m h e (subst (IsFrame m h) (sym same) holds) (ap (λ (f : Frame). next_event (program_of m) h f.next.value.step) same ∙ next);
    }

pub returns : goal.returns
returns c = λ below top is m h e holds next.
    let old = c.args.frames.now.items in
    let frame = c.in-Some.frame.now in
    let found : Some frame ≡ slice_get old (length old - 1) = c.in-Some.ensures.value ∙ (λ i. slice_get (c.deref.ensures.value i) (length (c.deref.ensures.value i) - 1)) in
    let looked : frame ≡ slice_index_or old (length old - 1) frame = sym (get_or_from_slice_get old (length old - 1) frame frame (sym found)) in
    let same : frame ≡ top = last_is old below top frame is looked in
    let node = c.in_ok-node.node in
    let child = c.in_ok-node.ensures.node below top is m h holds in
    let there = child.node e next in
    let higher : (node.left == 0) ≡ false = ap (λ (k : ℕ). k == 0) (child.left ∙ ap (λ (f : Frame). f.left) (sym same)) ∙ sym c.leads_to_a_leaf.ensures ∙ c.if-leads_to_a_leaf.false in
    record {
      child = node_seen m (e ∷ h) node;
      rest = c.descend.new.frames.items;
      passes = c.in_ok-node.ensures.passes below top is;
      program = refl;
      history = refl;
      slept = child.slept;
      left = child.left;
      opens = c.in_ok-open.ensures m (e ∷ h) there;
      adds = c.in_ok-add_deadlock.ensures m (e ∷ h) there;
      cut_is = sym (ap (λ (b : Bool). b && goes_on (program_of m) (Some (e ∷ h))) higher);
    }
