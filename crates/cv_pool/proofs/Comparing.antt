-- Entries are compared part by part.
use Rattle.std.proofs.Common.{◌≡◌, Bool, true, ◌&&◌, nat_eq, eqb-true, Option, Some, None, refl, ap₂, subst}
use Rattle.std.proofs.lemmas.Bool.{and_parts, eq-eqb, both_ways}
use Rattle.std.specs.Option.{option_eq}
use Rattle.cv_pool.specs.declared.node.Entry.{Entry}
use Rattle.cv_pool.specs.declared.node.Kind.{Kind}
use Rattle.cv_pool.specs.declared.node.NodeId.{NodeId}

abbrev pub same_kind : Kind → Kind → Bool
same_kind k l = nat_eq k.tag l.tag && (nat_eq k.a l.a && nat_eq k.b l.b)

abbrev pub same_number : NodeId → NodeId → Bool
same_number m n = nat_eq m.0 n.0

abbrev pub same_entry : Entry → Entry → Bool
same_entry c d = same_kind c.kind d.kind && (option_eq same_number c.first d.first && option_eq same_number c.second d.second)

kind_same : (k l : Kind) → same_kind k l ≡ true → k ≡ l
kind_same k l h =
    let p = and_parts (nat_eq k.tag l.tag) _ h in
    let q = and_parts (nat_eq k.a l.a) _ p.1 in
    λ i. record { tag = eqb-true k.tag l.tag p.0 i; a = eqb-true k.a l.a q.0 i; b = eqb-true k.b l.b q.1 i }

same_kind_law : (k : Kind) → same_kind k k ≡ true
same_kind_law k = ap₂ ◌&&◌ (eq-eqb k.tag k.tag refl) (ap₂ ◌&&◌ (eq-eqb k.a k.a refl) (eq-eqb k.b k.b refl))

child_same : (m n : Option NodeId) → option_eq same_number m n ≡ true → m ≡ n
child_same None None h = refl
child_same None (Some n) h = absurd (both_ways _ refl h)
child_same (Some m) None h = absurd (both_ways _ refl h)
child_same (Some m) (Some n) h = let e = eqb-true m.0 n.0 h in λ i. Some (record { 0 = e i })

same_child : (m : Option NodeId) → option_eq same_number m m ≡ true
same_child None = refl
same_child (Some m) = eq-eqb m.0 m.0 refl

pub entry_same : (c d : Entry) → same_entry c d ≡ true → c ≡ d
entry_same c d h =
    let p = and_parts (same_kind c.kind d.kind) _ h in
    let q = and_parts (option_eq same_number c.first d.first) _ p.1 in
    λ i. record { kind = kind_same c.kind d.kind p.0 i; first = child_same c.first d.first q.0 i; second = child_same c.second d.second q.1 i }

pub same_entry_law : (c d : Entry) → c ≡ d → same_entry c d ≡ true
same_entry_law c d e = subst (λ x. same_entry c x ≡ true) e (ap₂ ◌&&◌ (same_kind_law c.kind) (ap₂ ◌&&◌ (same_child c.first) (same_child c.second)))
