-- What a file may be.
use Rattle.std.specs.Prelude.{◌≤◌}
use Rattle.hb_space.specs.declared.form.TheConstants.{KMAX, ICAP_MIN}
use Rattle.hb_layout.specs.declared.limits.TheConstants.{PAGES_MAX, LOG_MIN, LOG_MAX, DCAP_MIN, DCAP_MAX, ICAP_MAX, HEIGHT_MAX}
use Rattle.hb_layout.specs.declared.meta.Meta.{Meta}

-- each number that is laid down when a file is made is within its limits, and so is the height
pub record IsLayout (meta : Meta) : Type 0 where
  pub some_attributes : 1 ≤ meta.k
  pub few_attributes : meta.k ≤ KMAX
  pub some_pages : 1 ≤ meta.pages
  pub few_pages : meta.pages ≤ PAGES_MAX
  pub log_room : LOG_MIN ≤ meta.log
  pub log_limit : meta.log ≤ LOG_MAX
  pub dcap_least : DCAP_MIN ≤ meta.dcap
  pub dcap_most : meta.dcap ≤ DCAP_MAX
  pub icap_least : ICAP_MIN ≤ meta.icap
  pub icap_most : meta.icap ≤ ICAP_MAX
  pub some_height : 1 ≤ meta.height
  pub few_levels : meta.height ≤ HEIGHT_MAX
