use Rattle.std.proofs.Common.{ℕ, List, ap, refl, subst, sym, ◌∙◌}
use Rattle.std.proofs.lemmas.List.{with_items_is}
use Rattle.hb_frag.specs.Leaves.{leaves_of}
use Rattle.hb_sound.specs.declared.names.Times.{Times}
use Rattle.hb_sound.specs.declared.rests.Rest.TheVariants.{Lone}
use Rattle.hb_sound.specs.Links.{IsRestOf}
use Rattle.hb_sound.specs.Told.{item_at}
use Rattle.hb_sound.proofs.RestSteps.{lone_adds}
use Rattle.hb_sound.proofs.links.Links.add_lone.Goals as goal

pub returns-clause-adds : goal.returns-clause-adds
returns-clause-adds c page level is =
    let Q : ℕ → Type 0 = λ n. IsRestOf c.args.facts.now n (leaves_of page.frag page.area) (Lone c.args.name c.args.area.now) in
    let long = rw c.deref_mut.ensures.value at c.count_one.ensures.same in
    let items = with_items_is c.args.self.now.named c.count_one.new.named (long ∙ sym c.args.self.now.named.ok.0) in
    let counted = rw c.deref_mut.ensures.value at c.count_one.ensures.counted in
    lone_adds c.args.facts.now page c.args.name c.args.area.now (subst Q (sym level) is) c.args.id c.args.self.now _ c.sees_same-same.result
    (λ other. ap (λ (l : List Times). item_at l other) items ∙ counted other) (rw (sym level, c.values.ensures.value, c.lo.ensures.value, c.values-2.ensures.value, c.hi.ensures.value) at c.sees_same-same.ensures) c.first_bad-self.ensures refl refl
