use Rattle.std.proofs.Common.{rules, ◌∙◌, [], IsNone, IsSome, sym, subst, arith}
use Rattle.hb_frag.specs.declared.pages.Page.{Page}
use Rattle.hb_frag.specs.Grammar.{SpellsPage}
use Rattle.hb_layout.specs.declared.meta.Meta.{Meta}
use Rattle.hb_store.specs.Keeps.{IsFresh, StoreKeeps}
use Rattle.hb_store.specs.Seen.{disk_of, seen_as}
use Rattle.hb_store.specs.States.{IsNew}
use Rattle.hb_restart.specs.Layouts.{layout_fault}
use Rattle.hb_restart.specs.NewFiles.{lone, new_meta, new_file, new_page}
use Rattle.hb_restart.proofs.Made.{no_error}
use Rattle.hb_restart.proofs.creation.create.Goals as goal

pub returns-in-Err-clause-refused : goal.returns-in-Err-clause-refused
returns-in-Err-clause-refused g c = record {
  why =
      let good : IsNone (layout_fault c.args.layout) = search rules in
      (good, omega (arith, c.if-found-needed.false, c.size-needed.ensures, c.size-found.ensures));
  made_anyway = λ same told.
      let d = g.D.Device.model c.args.disk in
      let new = g.D.Device.model c.write_file.new.disk in
      let meta = c.meta-meta.result in
      let page = c.empty_page.result in
      let fresh = no_error c.write_file.result (IsSome d.told → (p : Page) → SpellsPage c.encode.new.into p → IsFresh new 0 meta (lone meta p))
      (sym c.is_err.ensures.value ∙ c.if-is_err.false) c.write_file.ensures.fresh told page c.encode.ensures in
      let with_page : IsFresh new 0 meta (lone meta (new_page c.args.layout.k)) = subst (λ (p : Page). IsFresh new 0 meta (lone meta p)) c.empty_page.ensures.page fresh in
      let with_meta : IsFresh new 0 (new_meta c.args.layout) (new_file c.args.layout) = subst (λ (m : Meta). IsFresh new 0 m (lone m (new_page c.args.layout.k))) c.meta-meta.ensures with_page in
      subst (λ (x : g.row.D.Denot). IsFresh (g.D.Device.model x) 0 (new_meta c.args.layout) (new_file c.args.layout)) (sym c.in-Err.ensures.back) with_meta;
}

pub returns-in-Ok-clause-made : goal.returns-in-Ok-clause-made
returns-in-Ok-clause-made g c = record {
  good = (let good : IsNone (layout_fault c.args.layout) = search rules in good);
  large = omega (arith, c.if-found-needed.false, c.size-needed.ensures, c.size-found.ensures);
  is_new = subst (λ (m : Meta). IsNew 0 m (seen_as c.in-Ok.store)) c.meta-meta.ensures c.in-Ok.ensures.new;
  keeps = λ told.
      let d = g.D.Device.model c.args.disk in
      let new = g.D.Device.model c.write_file.new.disk in
      let after = g.D.Device.model (disk_of c.in-Ok.store) in
      let meta = c.meta-meta.result in
      let fresh = no_error c.write_file.result (IsSome d.told → (p : Page) → SpellsPage c.encode.new.into p → IsFresh new 0 meta (lone meta p))
      (sym c.is_err.ensures.value ∙ c.if-is_err.false) c.write_file.ensures.fresh told c.empty_page.result c.encode.ensures in
      let keeps = c.in-Ok.ensures.keeps (lone meta c.empty_page.result) fresh in
      let with_page : StoreKeeps after (seen_as c.in-Ok.store) (lone meta (new_page c.args.layout.k)) [] = subst (λ (p : Page). StoreKeeps after (seen_as c.in-Ok.store) (lone meta p) []) c.empty_page.ensures.page keeps in
      subst (λ (m : Meta). StoreKeeps after (seen_as c.in-Ok.store) (lone m (new_page c.args.layout.k)) []) c.meta-meta.ensures with_page;
}
