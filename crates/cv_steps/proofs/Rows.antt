-- What follows of a row that leads to a game: no condition of it fails. And rows that cost nothing wherever they lead.
use Rattle.std.proofs.Common.{◌≡◌, ℕ, Bool, true, false, Option, Some, None, refl}
use Rattle.cv_syntax_trees.specs.Tree.{Tree}
use Rattle.cv_steps.specs.Steps.{Cost, Fails, Leads, Row, Zero}
use Rattle.cv_steps.specs.Rows.{unless, unless_at}

pub leads_same : (x y : Tree) (c d : Cost) → Leads x c ≡ Leads y d → x ≡ y
leads_same x y c d e = cc

pub unless_leads : (v : Bool) (condition place : ℕ) (rest : Row) (next : Tree) (cost : Cost) → unless v condition place rest ≡ Leads next cost → (v ≡ true) × (rest ≡ Leads next cost)
unless_leads true condition place rest next cost e = (refl, e)
unless_leads false condition place rest next cost e = absurd (cc)

pub unless_at_leads : (condition : ℕ) (o : Option ℕ) (rest : Row) (next : Tree) (cost : Cost) → unless_at condition o rest ≡ Leads next cost → (o ≡ None) × (rest ≡ Leads next cost)
unless_at_leads condition None rest next cost e = (refl, e)
unless_at_leads condition (Some p) rest next cost e = absurd (cc)

abbrev pub IsFree : Row → Type 0
IsFree r = (next : Tree) (cost : Cost) → r ≡ Leads next cost → cost ≡ Zero

pub free_leads : (next : Tree) → IsFree (Leads next Zero)
free_leads t next cost e = cc

pub free_fails : (condition place : ℕ) → IsFree (Fails condition place)
free_fails condition place next cost e = absurd (cc)

pub free_unless : (v : Bool) (condition place : ℕ) (rest : Row) → IsFree rest → IsFree (unless v condition place rest)
free_unless true condition place rest h = h
free_unless false condition place rest h = free_fails condition place

pub free_unless_at : (condition : ℕ) (o : Option ℕ) (rest : Row) → IsFree rest → IsFree (unless_at condition o rest)
free_unless_at condition None rest h = h
free_unless_at condition (Some p) rest h = free_fails condition p
