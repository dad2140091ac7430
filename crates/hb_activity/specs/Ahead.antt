-- What a step finds ahead of it, by one look into the page that it looks into.
use Rattle.std.specs.Prelude.{◌≡◌, Option}
use Rattle.hb_frag.specs.declared.pages.LivePage.{LivePage}
use Rattle.hb_layout.specs.declared.meta.Meta.{Meta}
use Rattle.hb_activity.specs.declared.activities.Activity.{Activity}
use Rattle.hb_activity.specs.declared.ahead.Ahead.{Ahead}
use Rattle.hb_activity.specs.Seen.{seen_at}
use Rattle.hb_activity.specs.Wanting.{looked_at, may_commit, wanted_of}

pub record FindsAhead (activity : Activity) (meta : Meta) (page : Option LivePage) (ahead : Ahead) : Type 0 where
  -- the latch that it wants, and whether it may change the file
  pub wanted : ahead.wanted ≡ wanted_of activity meta page
  pub may_commit : ahead.may_commit ≡ may_commit activity meta page
  -- the leaf at whose point it looks in the page
  pub leaf : ahead.leaf ≡ seen_at page (looked_at activity)
