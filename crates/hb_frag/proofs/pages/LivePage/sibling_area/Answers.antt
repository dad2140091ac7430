use Rattle.std.proofs.Common.{◌≡◌, ◌↔◌, Option, IsSome, sym, ap, subst, ◌∙◌}
use Rattle.std.specs.List.{Any}
use Rattle.hb_space.specs.Boxes.{Area}
use Rattle.hb_frag.specs.Leaves.{first_named, siblings, siblings_of, leaves_of}
use Rattle.hb_frag.proofs.Facts.NamesListed.{named_found}
use Rattle.hb_frag.proofs.pages.LivePage.sibling_area.Goals as goal

pub returns-clause-found : goal.returns-clause-found
returns-clause-found c =
    let e : c.sibling_area.result ≡ first_named c.args.id (siblings_of c.args.self.now) = c.sibling_area.ensures ∙ ap (λ a. first_named c.args.id (siblings (leaves_of c.args.self.now.frag a))) c.copy.ensures.value in
    let P : Option Area → Type 0 = λ r. IsSome r ↔ Any (λ s. s.0 ≡ c.args.id) (siblings_of c.args.self.now) in
    subst P (sym e) (named_found c.args.id (siblings_of c.args.self.now))
