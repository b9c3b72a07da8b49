-- The trees of certificates.
use Rattle.std.specs.Prelude.{ℕ, List, [], ◌∷◌, ◌++◌, map, All, Option, None, Some}
use Rattle.cv_syntax_trees.specs.declared.head.Head.TheVariants as head
use Rattle.cv_syntax_trees.specs.Tree.{Tree, Node, chain}
use Rattle.cv_pool.specs.KindTree.{KindTree}
use Rattle.cv_pool.specs.declared.names.names.NameId.{NameId}
use Rattle.cv_step_writer.specs.declared.certificates.Route.{Route}
use Rattle.cv_step_writer.specs.declared.certificates.Route.TheVariants as route
use Rattle.cv_step_writer.specs.declared.certificates.Entry.{Entry}
use Rattle.cv_step_writer.specs.declared.certificates.Entry.TheVariants as entry
use Rattle.cv_step_writer.specs.declared.certificates.Pair.{Pair}
use Rattle.cv_step_writer.specs.declared.certificates.SecretPair.{SecretPair}
use Rattle.cv_step_writer.specs.declared.certificates.Certificate.{Certificate}
use Rattle.cv_step_writer.specs.declared.certificates.Certificate.TheVariants as certificate
use Rattle.cv_step_writer.specs.Items.{names, number, over, term, terms}
use Rattle.cv_step_writer.specs.Derivations.{AreLinesBelow, IsBelow, derivation}

abbrev pub route_tree : List KindTree → Route → Tree
route_tree trees (route.Above p by) = over head.AboveRoute (number p ∷ derivation trees by.items ∷ [])
route_tree trees (route.Cell c p by) = over head.CellRoute (term trees c ∷ number p ∷ derivation trees by.items ∷ [])
route_tree trees (route.Holds by) = over head.HoldsRoute (derivation trees by.items ∷ [])

abbrev pub routes_tree : List KindTree → List Route → Tree
routes_tree trees routes = chain (map (route_tree trees) routes)

-- the routes of an entry: behind the number of their alternative, where there is more than one
abbrev pub chosen_tree : List KindTree → (alternative : Option ℕ) → List Route → Tree
chosen_tree trees None routes = routes_tree trees routes
chosen_tree trees (Some a) routes = Node head.Cons (over head.AlternativePart (number a ∷ [])) (routes_tree trees routes)

abbrev pub entry_tree : List KindTree → Entry → Tree
entry_tree trees (entry.Never p by) = over head.AtEntry (number p ∷ over head.NeverEntry (derivation trees by.items ∷ []) ∷ [])
entry_tree trees (entry.With p ms a routes) =
    over head.AtEntry (number p ∷ over head.WithEntry (terms trees ms.items ∷ chosen_tree trees a routes.items ∷ []) ∷ [])

-- the variables that are named `distinct`, where there are any
abbrev pub distinct_part : List NameId → List Tree
distinct_part [] = []
distinct_part (x ∷ xs) = over head.DistinctPart (names (x ∷ xs) ∷ []) ∷ []

abbrev pub pair_tree : List KindTree → Pair → Tree
pair_tree trees p = over head.Pair (number p.first ∷ number p.second ∷ number p.event ∷ derivation trees p.by.items ∷ [])

abbrev pub secret_pair_tree : List KindTree → SecretPair → Tree
secret_pair_tree trees p = over head.SecretPair (number p.first ∷ number p.second ∷ derivation trees p.by.items ∷ [])

-- entries, the part `distinct` and pairs, in one list
abbrev pub events_parts : List KindTree → List Entry → List NameId → List Pair → List Tree
events_parts trees entries distinct pairs = map (entry_tree trees) entries ++ (distinct_part distinct ++ map (pair_tree trees) pairs)

abbrev pub certificate_tree : List KindTree → Certificate → Tree
certificate_tree trees (certificate.Events entries distinct pairs) =
    over head.EventsCertificate (chain (events_parts trees entries.items distinct.items pairs.items) ∷ [])
certificate_tree trees (certificate.Secret pairs) = over head.SecretCertificate (chain (map (secret_pair_tree trees) pairs.items) ∷ [])

-- The nodes that are named stand below a number.

abbrev pub IsRouteBelow : ℕ → Route → Type 0
IsRouteBelow n (route.Above p by) = AreLinesBelow n by.items
IsRouteBelow n (route.Cell c p by) = IsBelow n c × AreLinesBelow n by.items
IsRouteBelow n (route.Holds by) = AreLinesBelow n by.items

abbrev pub IsEntryBelow : ℕ → Entry → Type 0
IsEntryBelow n (entry.Never p by) = AreLinesBelow n by.items
IsEntryBelow n (entry.With p ms a routes) = All (IsBelow n) ms.items × All (IsRouteBelow n) routes.items

abbrev pub IsPairBelow : ℕ → Pair → Type 0
IsPairBelow n p = AreLinesBelow n p.by.items

abbrev pub IsSecretPairBelow : ℕ → SecretPair → Type 0
IsSecretPairBelow n p = AreLinesBelow n p.by.items

abbrev pub IsCertificateBelow : ℕ → Certificate → Type 0
IsCertificateBelow n (certificate.Events entries distinct pairs) = All (IsEntryBelow n) entries.items × All (IsPairBelow n) pairs.items
IsCertificateBelow n (certificate.Secret pairs) = All (IsSecretPairBelow n) pairs.items
