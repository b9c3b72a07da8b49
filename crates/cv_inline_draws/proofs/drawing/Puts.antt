-- A name more in a table.
use Rattle.std.proofs.Common.{◌≡◌, ℕ, nat_eq, Bool, true, false, ◌&&◌, Option, Some, if◌then◌else◌, refl, ap, subst, ◌∙◌}
use Rattle.std.specs.Prelude.{cond}
use Rattle.std.specs.HashMap.{HashMap, get, Updates}
use Rattle.std.proofs.Math.Path.{fun_ext}
use Rattle.cv_meaning.specs.contexts.Roles as roles
use Rattle.cv_meaning.specs.contexts.Inlined.{Drawn}
use Rattle.cv_inline.specs.contracts.terms.drawn.IndexPartialEq.TheImpl.{ghosts}
use Rattle.cv_inline.specs.declared.terms.drawn.Index.{Index}
use Rattle.cv_inline.specs.terms.Drawings.{or_zero, same_index, same_pair}
use Rattle.cv_inline_draws.specs.drawing.Tables.{with_label, with_name}

choice : (b : Bool) (w : ℕ) (o : Option ℕ) → or_zero (cond b (Some w) o) ≡ (if b then w else or_zero o)
choice true w o = refl
choice false w o = refl

pair_put : {S : Type 0} (m n : HashMap (ℕ × ℕ) ℕ S) (k : ℕ × ℕ) (w : ℕ) → Updates same_pair m n k (Some w) → (s v : ℕ) → or_zero (get same_pair n (s, v)) ≡ (if same_pair k (s, v) then w else or_zero (get same_pair m (s, v)))
pair_put m n k w u s v = ap or_zero (u.0 (s, v)) ∙ choice (same_pair k (s, v)) w (get same_pair m (s, v))

regroup : (a b c d e : Bool) → (a && (b && (c && (d && e)))) ≡ (a && b && c && d && e)
regroup true true true true e = refl
regroup true true true false e = refl
regroup true true false d e = refl
regroup true false c d e = refl
regroup false b c d e = refl

eq_same : ghosts.eq ≡ same_index
eq_same = fun_ext (λ i. fun_ext (λ j. regroup (nat_eq i.site j.site) (nat_eq i.place j.place) (nat_eq i.other j.other) (nat_eq i.branch j.branch) (nat_eq i.replication j.replication)))

index_put : {S : Type 0} (m n : HashMap Index ℕ S) (k : Index) (w : ℕ) → Updates ghosts.eq m n k (Some w) → (q : Index) → or_zero (get same_index n q) ≡ (if ghosts.eq k q then w else or_zero (get same_index m q))
index_put m n k w u q =
    ap or_zero (subst (λ (e : Index → Index → Bool). get e n q ≡ cond (ghosts.eq k q) (Some w) (get e m q)) eq_same (u.0 q)) ∙ choice (ghosts.eq k q) w (get same_index m q)

pub variable_more : {S : Type 0} (d : Drawn) (m n : HashMap (ℕ × ℕ) ℕ S) (site x w : ℕ) → Updates same_pair m n (site, x) (Some w) →
    record d { variable = λ s v. or_zero (get same_pair n (s, v)) } ≡ with_name (roles.Variable site x) w (record d { variable = λ s v. or_zero (get same_pair m (s, v)) })
variable_more d m n site x w u = λ i. record { key = d.key; variable = λ s v. pair_put m n (site, x) w u s v i; label = d.label; index = d.index }

pub label_more : {S : Type 0} (d : Drawn) (m n : HashMap (ℕ × ℕ) ℕ S) (f : ℕ × ℕ) (w : ℕ) → Updates same_pair m n f (Some w) →
    record d { label = λ s q. or_zero (get same_pair n (s, q)) } ≡ with_label f w (record d { label = λ s q. or_zero (get same_pair m (s, q)) })
label_more d m n f w u = λ i. record { key = d.key; variable = d.variable; label = λ s q. pair_put m n f w u s q i; index = d.index }

abbrev indices_in : {S : Type 0} → HashMap Index ℕ S → (site place other branch replication : ℕ) → ℕ
indices_in m s q o b k = or_zero (get same_index m (record { site = s; place = q; other = o; branch = b; replication = k }))

pub index_more : {S : Type 0} (d : Drawn) (m n : HashMap Index ℕ S) (k : Index) (w : ℕ) → Updates ghosts.eq m n k (Some w) →
    record d { index = indices_in n } ≡ with_name (roles.Index k.site k.place k.other k.branch k.replication) w (record d { index = indices_in m })
index_more d m n k w u = λ i. record { key = d.key; variable = d.variable; label = d.label; index = λ s q o b j. index_put m n k w u (record { site = s; place = q; other = o; branch = b; replication = j }) i }
