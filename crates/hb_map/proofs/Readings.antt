-- What it comes to that a page was fetched and copied, or wasn't.
use Rattle.std.proofs.Common.{◌≡◌, ◌≢◌, inl, inr, ℕ, ◌<◌, ◌≤◌, ◌^◌, ◌==◌, true, false, cond, List, Some, Result, Ok, Err, refl, sym, ap, subst, ◌∙◌, arith}
use Rattle.std.specs.Prelude.{IfSome}
use Rattle.std.specs.Result.{IfErr, IfOk, IsErrOf}
use Rattle.hb_disk.specs.Model.{DiskModel}
use Rattle.hb_frag.specs.declared.pages.Page.{Page}
use Rattle.hb_frag.specs.declared.pages.Page.TheVariants.{Live, Free}
use Rattle.hb_frag.specs.Leaves.{weight_of}
use Rattle.hb_frag.specs.Rules.{capacity_of}
use Rattle.hb_layout.specs.declared.meta.Meta.{Meta}
use Rattle.hb_layout.specs.Limits.{IsLayout}
use Rattle.hb_ops.specs.Files.{FileState, page_of, last_of}
use Rattle.hb_ops.specs.Sound.{IsSound}
use Rattle.hb_store.specs.Calls.{Fetched, KeepsAllButPages, use_fetched}
use Rattle.hb_store.specs.Fetching.{FetchesNot, IsDamagedBy, IsNoPage, LooksUp}
use Rattle.hb_store.specs.Opening.{place_bytes}
use Rattle.hb_store.specs.Held.{StoreHeld}
use Rattle.hb_store.specs.Keeps.{StoreKeeps}
use Rattle.hb_store.specs.Replaying.{IsPageOf}
use Rattle.hb_store.specs.States.{IsGoodPage, in_memory}
use Rattle.hb_store.specs.declared.stops.FetchStop.{FetchStop}
use Rattle.hb_store.specs.declared.stops.FetchStop.TheVariants as fetches
use Rattle.hb_store.specs.declared.stops.Why.TheVariants.{Rule, Level, Extent}
use Rattle.hb_store.proofs.Facts.LookLaws.{LooksUp-as}
use Rattle.hb_store.proofs.Facts.Fetched.{page_not_none}
use Rattle.hb_map.specs.declared.stops.MapStop.{MapStop}
use Rattle.hb_map.specs.declared.stops.MapStop.TheVariants as stops
use Rattle.hb_map.specs.Mapping.{IsNoDamage, LooksThrough, MayAllGo, MayBePrinted, NamesPage, OfSoundFile, StopsRightly, map_stop_of}
use Rattle.hb_map.proofs.Facts.Going.{still_go}

-- a refusal of memory is no other stop
pub not_stopped_by : {T : Type 0} (r : Result T MapStop) (stop : MapStop) → stop ≢ stops.NoMemory → IfErr r (λ s. s ≡ stops.NoMemory) → r ≡ Err stop → ⊥
not_stopped_by (Ok x) stop other memory is = cc (is)
not_stopped_by (Err s) stop other memory is = let same : s ≡ stop = cc in other (sym same ∙ memory)

pub not_read_fault : stops.ReadFault ≢ stops.NoMemory
not_read_fault is = cc (is)

pub not_sink_fault : stops.SinkFault ≢ stops.NoMemory
not_sink_fault is = cc (is)

pub memory_rightly : {T : Type 0} (r : Result T MapStop) (d : DiskModel) (held : StoreHeld) → IfErr r (λ s. s ≡ stops.NoMemory) → IfErr r (StopsRightly d held)
memory_rightly (Ok x) d held memory = tt
memory_rightly (Err s) d held memory = subst (StopsRightly d held) (sym memory) (record { names = tt; sound = λ durable later keeps sound. tt })

-- the page was fetched
pub fetched_through : {T : Type 0} (r : Result T MapStop) (fetch : Result (Unit {0}) FetchStop) (d e : DiskModel) (old new : StoreHeld) (id : ℕ) → fetch ≡ Ok (tt {0}) → IfErr r (λ s. s ≡ stops.NoMemory) → MayAllGo old.uses →
    LooksUp (IsErrOf fetch fetches.ReadFault) d e old.state new.state → Fetched id old.state new.state → new.uses ≡ use_fetched id old.uses → LooksThrough (IsErrOf r stops.ReadFault) d e old new
fetched_through r fetch d e old new id is memory go looks fetched uses = record {
  looks = LooksUp-as d e old.state new.state (λ failed. let never : ⊥ = cc (is, failed) in absurd never) (λ failed. absurd (not_stopped_by r stops.ReadFault not_read_fault memory failed)) looks;
  rest = fetched.rest;
  may_go = subst MayAllGo (sym uses) (still_go id old.uses go);
}

pub of_the_file : {F : Type 0} (r : Result Page MapStop) (d e : DiskModel) (old new : StoreHeld) (id : ℕ) → LooksUp F d e old.state new.state → IfOk r (λ page. in_memory new.state id ≡ Some page) → IfOk r (λ page. OfSoundFile d old (λ s. page_of s id ≡ Some page))
of_the_file (Ok page) d e old new id looks there = λ durable later keeps sound. (looks.keeps durable later keeps).memory.cached id page there
of_the_file (Err s) d e old new id looks there = tt

-- a good page may be printed
light : (level dcap icap weight : ℕ) → weight ≤ capacity_of level dcap icap → dcap ≤ 48 → icap ≤ 256 → weight < 2 ^ 32
light level dcap icap weight small low high =
    elim (level == 0) as (λ b. weight ≤ cond b dcap icap → weight < 2 ^ 32) [ true ↦ λ few. omega (arith, few) | false ↦ λ few. omega (arith, few) ] small

pub good_printed : (meta : Meta) (page : Page) → IsLayout meta → IsGoodPage meta page → MayBePrinted page
good_printed meta (Live page) layout good = (good.1.well_cut, light page.level meta.dcap meta.icap (weight_of page.frag) good.1.filled.light layout.dcap_most layout.icap_most)
good_printed meta (Free next) layout good = tt

-- it wasn't
read_only : (stop : FetchStop) → stop ≢ fetches.Crowded → map_stop_of stop ≡ stops.ReadFault → stop ≡ fetches.ReadFault
read_only (fetches.Damaged page why) other is = cc (is)
read_only fetches.ReadFault other is = refl
read_only fetches.Crowded other is = absurd (other refl)

pub kept_through : {T U : Type 0} (stop : FetchStop) (d e : DiskModel) (old new : StoreHeld) → stop ≢ fetches.Crowded → MayAllGo old.uses → LooksUp (IsErrOf {T = T} (Err stop) fetches.ReadFault) d e old.state new.state →
    new.state ≡ old.state → new.uses ≡ old.uses → LooksThrough (IsErrOf {T = U} (Err (map_stop_of stop)) stops.ReadFault) d e old new
kept_through {T = T} {U = U} stop d e old new other go looks state uses = record {
  looks = LooksUp-as d e old.state new.state (λ failed. let same : stop ≡ fetches.ReadFault = cc (failed) in ap (λ (s : FetchStop). let e : Result U MapStop = Err (map_stop_of s) in e) same) (λ failed. let same : map_stop_of stop ≡ stops.ReadFault = cc (failed) in ap (λ (s : FetchStop). let e : Result T FetchStop = Err s in e) (read_only stop other same)) looks;
  rest = subst (KeepsAllButPages old.state) (sym state) refl;
  may_go = subst MayAllGo (sym uses) go;
}

names_it : (meta : Meta) (d : DiskModel) (id : ℕ) (stop : FetchStop) → IsPageOf meta id → FetchesNot meta d id stop → NamesPage meta d.told (map_stop_of stop)
names_it meta d id (fetches.Damaged page (Rule rule)) there (same, inl (first, none)) = absurd (page_not_none meta id there none)
names_it meta d id (fetches.Damaged page (Rule rule)) there (same, inr (rule_is, some, broken)) = (
  omega (arith, same, there.0),
  omega (arith, same, there.1),
  rule_is,
  subst (λ (at : ℕ). IfSome d.told (λ b. IsDamagedBy meta (place_bytes meta at b) rule)) (sym same) broken,
)
names_it meta d id (fetches.Damaged page (Level asked found)) there why = why
names_it meta d id (fetches.Damaged page (Extent asked found)) there why = why
names_it meta d id fetches.ReadFault there why = tt
names_it meta d id fetches.Crowded there why = tt

no_damage : (meta : Meta) (id : ℕ) (stop : FetchStop) → IsPageOf meta id → ((stop ≢ fetches.ReadFault) → (stop ≢ fetches.Crowded) → IsNoPage meta id) → IsNoDamage (map_stop_of stop)
no_damage meta id (fetches.Damaged page why) there says = absurd (page_not_none meta id there (says (λ is. cc (is)) (λ is. cc (is))))
no_damage meta id fetches.ReadFault there says = tt
no_damage meta id fetches.Crowded there says = tt

pub stops_rightly : (d : DiskModel) (old : StoreHeld) (id : ℕ) (stop : FetchStop) → IsPageOf old.state.meta id → FetchesNot old.state.meta d id stop →
    ((durable : FileState) (later : List FileState) → StoreKeeps d old.state durable later → IsSound (last_of durable later) → (stop ≢ fetches.ReadFault) → (stop ≢ fetches.Crowded) → IsNoPage old.state.meta id) → StopsRightly d old (map_stop_of stop)
stops_rightly d old id stop there why sound = record {
  names = names_it old.state.meta d id stop there why;
  sound = λ durable later keeps is. no_damage old.state.meta id stop there (sound durable later keeps is);
}

pub not_of_sink : (stop : FetchStop) → map_stop_of stop ≡ stops.SinkFault → ⊥
not_of_sink (fetches.Damaged page why) is = cc (is)
not_of_sink fetches.ReadFault is = cc (is)
not_of_sink fetches.Crowded is = cc (is)
