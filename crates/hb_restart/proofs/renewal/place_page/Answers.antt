use Rattle.std.proofs.Common.{◌≡◌, ◌+◌, ℕ, List, Some, refl, sym, arith}
use Rattle.std.specs.Ordering.{nat_cmp}
use Rattle.std.specs.BTreeMap.{get}
use Rattle.std.proofs.lemmas.Result.{on_ok_weaker}
use Rattle.hb_lemmas.proofs.Options.{not_none}
use Rattle.hb_super.specs.Superblocks.{next_turn}
use Rattle.hb_layout.specs.declared.meta.Meta.{Meta}
use Rattle.hb_layout.specs.Offsets.{file_size, page_offset}
use Rattle.hb_frag.specs.Grammar.{SpellsPage}
use Rattle.hb_ops.specs.Files.{FileState}
use Rattle.hb_store.specs.Opening.{place_bytes}
use Rattle.hb_store.specs.Turning.{IsPlacedTo}
use Rattle.hb_restart.specs.Renewing.{IsWrittenTo}
use Rattle.hb_restart.proofs.Renewed.{placed_moments, placed_there, placed_untouched}
use Rattle.hb_restart.proofs.Facts.Beyond.{beyond_wider}
use Rattle.hb_restart.proofs.RunsThen.{faults_write, runs_none}
use Rattle.hb_disk.proofs.Facts.RunLaws.{one_tick}
use Rattle.hb_restart.proofs.RunSteps.{on_ok_given_so}
use Rattle.hb_restart.proofs.EachOnce.{between, written_untouched, while_written, written_there}
use Rattle.hb_restart.proofs.renewal.place_page.Goals as goal
use Rattle.hb_layout.proofs.Facts.Parts.{page_within}

pub write_page-requires-clause-spelling : goal.write_page-requires-clause-spelling
write_page-requires-clause-spelling g c = c.requires.renewable.spelled c.args.id c.in-Some.page.now (sym c.in-Some.ensures.value)

pub write_page-requires-clause-has : goal.write_page-requires-clause-has
write_page-requires-clause-has g c = record {
  room = c.requires.renewable.lies.room;
  some = c.requires.some;
  most = let most = c.requires.most in let few = c.requires.renewable.bounded.high in omega (arith, most, few);
}

pub returns-in-Some-clause-moments : goal.returns-in-Some-clause-moments
returns-in-Some-clause-moments g c = λ said s here.
    let found = c.args.found.now in
    let touched = get nat_cmp found.touched in
    placed_moments found.turn (next_turn found.turn) said found.meta c.requires.renewable.lies.legal.turn_fits refl touched s
    c.write_page.result (g.D.Device.model c.args.disk.now) (g.D.Device.model c.write_page.new.disk) (g.met.D.Device.is_disk c.args.disk.now) here
    c.args.id c.requires.some (not_none (touched c.args.id) c.in-Some.page.now (sym c.in-Some.ensures.value)) c.write_page.ensures.ticks c.write_page.ensures.place

pub returns-in-Some-clause-placed : goal.returns-in-Some-clause-placed
returns-in-Some-clause-placed g c =
    let d = g.D.Device.model c.args.disk.now in
    let new = g.D.Device.model c.write_page.new.disk in
    let found = c.args.found.now in
    let touched = get nat_cmp found.touched in
    on_ok_weaker {P = (b : List ℕ) → new.told ≡ Some b → SpellsPage (place_bytes found.meta c.args.id b) c.in-Some.page.now} {Q = (said : Meta) (s : FileState) (before : ℕ) → before + 1 ≡ c.args.id → IsPlacedTo before d found.turn said found.meta touched s → IsPlacedTo c.args.id new found.turn said found.meta touched s} c.write_page.result
    (λ there said s before is placed.
    placed_there found.turn (next_turn found.turn) said found.meta c.requires.renewable.lies.legal.turn_fits refl touched s c.write_page.result d new (g.met.D.Device.is_disk c.args.disk.now) placed.here
    c.args.id c.requires.some (not_none (touched c.args.id) c.in-Some.page.now (sym c.in-Some.ensures.value)) c.write_page.ensures.ticks c.write_page.ensures.place
    c.in-Some.page.now (sym c.in-Some.ensures.value) there before is placed)
    c.write_page.ensures.there

pub returns-in-None-clause-placed : goal.returns-in-None-clause-placed
returns-in-None-clause-placed g c = λ said s before is placed.
    let found = c.args.found.now in
    placed_untouched found.turn (next_turn found.turn) said found.meta c.requires.renewable.lies.legal.turn_fits refl (get nat_cmp found.touched) s
    (g.D.Device.model c.args.disk.now) (g.met.D.Device.is_disk c.args.disk.now) c.args.id before is (sym c.in-None.ensures.value) placed

pub returns-in-Some-clause-run : goal.returns-in-Some-clause-run
returns-in-Some-clause-run g c =
    let d = g.D.Device.model c.args.disk.now in
    let new = g.D.Device.model c.write_page.new.disk in
    let meta = c.args.found.now.meta in
    record {
      beyond = beyond_wider (page_offset meta c.args.id) 4096 (file_size meta) d new
          (page_within c.args.id meta c.requires.some (let most = c.requires.most in let few = c.requires.renewable.bounded.high in omega (arith, most, few))) c.write_page.ensures.place;
      few = one_tick c.write_page.result d new (g.met.D.Device.is_disk c.args.disk.now) c.write_page.ensures.ticks;
      faults = faults_write d new c.write_page.ensures.faults;
    }

pub returns-in-None-clause-run : goal.returns-in-None-clause-run
returns-in-None-clause-run g c = runs_none 1 (file_size c.args.found.now.meta) (g.D.Device.model c.args.disk.now) (g.met.D.Device.is_disk c.args.disk.now) (λ f. let never : ⊥ = cc f in never)

pub returns-in-Some-clause-once : goal.returns-in-Some-clause-once
returns-in-Some-clause-once g c = λ from before b is stands.
    while_written from b c.args.found.now.meta (get nat_cmp c.args.found.now.touched) c.write_page.result (g.D.Device.model c.args.disk.now) (g.D.Device.model c.write_page.new.disk) (g.met.D.Device.is_disk c.args.disk.now)
    before c.args.id is c.in-Some.page.now (sym c.in-Some.ensures.value) stands c.write_page.ensures.ticks c.write_page.ensures.place

pub returns-in-None-clause-once : goal.returns-in-None-clause-once
returns-in-None-clause-once g c = λ from before b is stands.
    between from b c.args.found.now.meta (get nat_cmp c.args.found.now.touched) before (g.D.Device.model c.args.disk.now) stands

pub returns-in-Some-clause-written : goal.returns-in-Some-clause-written
returns-in-Some-clause-written g c =
    let d = g.D.Device.model c.args.disk.now in
    let new = g.D.Device.model c.write_page.new.disk in
    let meta = c.args.found.now.meta in
    let touched = get nat_cmp c.args.found.now.touched in
    on_ok_given_so c.write_page.result ((b : List ℕ) → new.told ≡ Some b → SpellsPage (place_bytes meta c.args.id b) c.in-Some.page.now)
    ((from before : ℕ) (b : List ℕ) → before + 1 ≡ c.args.id → IsWrittenTo before from b meta touched d → IsWrittenTo c.args.id from b meta touched new)
    (λ v ok there from before b is stands.
    written_there from b meta touched c.write_page.result d new (g.met.D.Device.is_disk c.args.disk.now)
    before c.args.id is c.in-Some.page.now (sym c.in-Some.ensures.value) stands c.write_page.ensures.ticks c.write_page.ensures.place v ok there)
    c.write_page.ensures.there

pub returns-in-None-clause-written : goal.returns-in-None-clause-written
returns-in-None-clause-written g c = λ from before b is stands.
    written_untouched from b c.args.found.now.meta (get nat_cmp c.args.found.now.touched) before c.args.id (g.D.Device.model c.args.disk.now) is (sym c.in-None.ensures.value) stands
