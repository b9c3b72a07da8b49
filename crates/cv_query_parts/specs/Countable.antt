-- Certificates whose derivations have no more lines than can be counted.
use Rattle.std.specs.Prelude.{◌+◌, ◌<◌, ◌^◌}
use Rattle.cv_syntax_trees.specs.declared.head.Head.TheVariants.{EventsCertificate, Pair, SecretCertificate, SecretPair}
use Rattle.cv_syntax_trees.specs.Tree.{Tree, Empty, Node}
use Rattle.cv_scene.specs.lines.Lines.{count, lines_of}
use Rattle.cv_query_certificates.specs.Alternatives.{routes_of}
use Rattle.cv_query_parts.specs.Said.{Saying, Never, Nothing, Way, With, Above, ByCell, Holds, NoWay, saying_of, way_of}

abbrev pub IsCountable : (derivation : Tree) → Type 0
IsCountable by = 1 + count (lines_of by) < 2 ^ 32

-- the derivation of a route
abbrev pub derivation_by : Way → Tree
derivation_by (Above q by) = by
derivation_by (ByCell c q by) = by
derivation_by (Holds by) = by
derivation_by NoWay = Empty

abbrev pub AreCountable : (routes : Tree) → Type 0
AreCountable Empty = Unit {0}
AreCountable (Node h route more) = IsCountable (derivation_by (way_of route)) × AreCountable more

abbrev pub IsCountableSaying : Saying → Type 0
IsCountableSaying (Never n by) = IsCountable by
IsCountableSaying (With n ws choice) = AreCountable (routes_of choice)
IsCountableSaying Nothing = Unit {0}

-- an entry, a pair, or a pair of secrecy
abbrev pub IsCountablePart : (part : Tree) → Type 0
IsCountablePart (Node Pair p (Node h q (Node g c by))) = IsCountable by
IsCountablePart (Node SecretPair p (Node h q by)) = IsCountable by
IsCountablePart part = IsCountableSaying (saying_of part)

abbrev pub AreCountableParts : (parts : Tree) → Type 0
AreCountableParts Empty = Unit {0}
AreCountableParts (Node h part more) = IsCountablePart part × AreCountableParts more

abbrev pub IsCountableCertificate : Tree → Type 0
IsCountableCertificate (Node EventsCertificate parts e) = AreCountableParts parts
IsCountableCertificate (Node SecretCertificate parts e) = AreCountableParts parts
IsCountableCertificate t = Unit {0}
