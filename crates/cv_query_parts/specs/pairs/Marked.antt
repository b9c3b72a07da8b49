-- The routes for the events that are marked `inj`, entry by entry, and where they end.
use Rattle.std.specs.Prelude.{ℕ, All, List, flat_map, map, Option, Some, None}
use Rattle.cv_pool.specs.KindTree.{KindTree}
use Rattle.cv_meaning.specs.Correspondences.{Correspondence}
use Rattle.cv_scene.specs.Scenes.{Scene}
use Rattle.cv_query_certificates.specs.EventNodes.{place_in}
use Rattle.cv_query_certificates.specs.Pairs.{End, ends_of_choice, numbered_end}
use Rattle.cv_query_parts.specs.Said.{IsRouteBelow, Saying, Never, Nothing, With, way_seen}
use Rattle.cv_query_parts.specs.declared.pairs.marked.MarkedEntry.{MarkedEntry}
use Rattle.cv_query_parts.specs.declared.pairs.marked.MarkedRoute.{MarkedRoute}
use Rattle.cv_query_parts.specs.pairs.Routes.{end_by}

abbrev pub marked_end : Scene → List KindTree → MarkedRoute → List (ℕ × End)
marked_end s trees r = numbered_end r.atom (end_by s (way_seen trees r.route))

abbrev pub ends_seen : Scene → List KindTree → List MarkedRoute → List (ℕ × End)
ends_seen s trees rs = flat_map (marked_end s trees) rs

abbrev pub entry_seen : Scene → List KindTree → MarkedEntry → ℕ × List (ℕ × End)
entry_seen s trees e = (e.place, ends_seen s trees e.routes.items)

abbrev pub entries_seen : Scene → List KindTree → List MarkedEntry → List (ℕ × List (ℕ × End))
entries_seen s trees es = map (entry_seen s trees) es

-- of an entry, by what it says
abbrev pub ends_of_saying : Scene → Correspondence → Saying → Option (ℕ × List (ℕ × End))
ends_of_saying s q (With n ws choice) = Some (place_in n, ends_of_choice s q choice)
ends_of_saying s q (Never n by) = None
ends_of_saying s q Nothing = None

-- its nodes are below a number

abbrev pub IsMarkedBelow : ℕ → MarkedRoute → Type 0
IsMarkedBelow n r = IsRouteBelow n r.route

abbrev pub IsEntryBelow : ℕ → MarkedEntry → Type 0
IsEntryBelow n e = All (IsMarkedBelow n) e.routes.items
