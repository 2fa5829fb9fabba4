-- What a look into a cache finds, as a scan would report it.
use Rattle.krl_cache.specs.declared.found.Found.{Found}
use Rattle.krl_cache.specs.declared.found.Found.TheVariants as rows_found
use Rattle.krl_cache.specs.declared.scanned.Scanned.{Scanned}
use Rattle.krl_cache.specs.declared.scanned.Scanned.TheVariants as scanned

abbrev pub scanned_of : Found → Scanned
scanned_of (rows_found.Rows rows) = scanned.Rows rows
scanned_of (rows_found.Miss p) = scanned.Miss p
