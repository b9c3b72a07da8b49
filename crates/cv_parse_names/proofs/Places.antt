-- The uses before a place, the use at it, and the uses behind it; an entry of a table after a write.
use Rattle.std.proofs.Common.{◌≡◌, ◌==◌, ℕ, zero, suc, ◌+◌, ◌<◌, ◌≤◌, true, false, List, [], ◌∷◌, ◌++◌, length, get_or, set, take, drop, refl, ap, sym, ◌∙◌, arith, add-one, drop-cons, eq-eqb}
use Rattle.std.specs.Prelude.{replicate}
use Rattle.std.proofs.lemmas.List.{get_or_default, get_or-set_other, get_or-set_same, map-append, map_more, take-append-drop, take_all}
use Rattle.std.proofs.lemmas.Bool.{eqb-true}
use Rattle.cv_parse_terms.specs.declared.trail.NameUse.{NameUse}
use Rattle.cv_parse_terms.specs.Gives.{use_of, uses_of}
use Rattle.cv_parse_names.specs.declared.table.Entry.{Entry}
use Rattle.cv_parse_names.specs.Table.{entry_at, unseen, use_at}

pub taken : (uses : List NameUse) (at : ℕ) → at < length uses → uses_of (take (at + 1) uses) ≡ uses_of (take at uses) ++ use_of (use_at uses at) ∷ []
taken uses at h = map_more use_of uses at _ h

pub dropped : (uses : List NameUse) (at : ℕ) → at < length uses → uses_of (drop at uses) ≡ use_of (use_at uses at) ∷ uses_of (drop (at + 1) uses)
dropped uses at h = ap uses_of (drop_here uses at h)
  where
    drop_here : (uses : List NameUse) (at : ℕ) → at < length uses → drop at uses ≡ use_at uses at ∷ drop (at + 1) uses
    drop_here uses at h = rw add-one (drop-cons uses at _ h)

pub whole : (uses : List NameUse) (at : ℕ) → at < length uses → uses_of uses ≡ uses_of (take at uses) ++ use_of (use_at uses at) ∷ uses_of (drop (at + 1) uses)
whole uses at h = ap uses_of (sym (take-append-drop at uses)) ∙ (map-append use_of (take at uses) (drop at uses) ∙ ap (λ z. uses_of (take at uses) ++ z) (dropped uses at h))

-- entries

pub entry_written : (table : List Entry) (y x : ℕ) (e : Entry) → y < length table → (y == x) ≡ true → entry_at (set table y e) x ≡ e
entry_written table y x e h d = ap (entry_at (set table y e)) (sym (eqb-true y x d)) ∙ get_or-set_same table y e unseen h

pub entry_kept : (table : List Entry) (y x : ℕ) (e : Entry) → (y == x) ≡ false → entry_at (set table y e) x ≡ entry_at table x
entry_kept table y x e d = get_or-set_other table y x e unseen (λ i. let j = eq-eqb y x (sym i) in absurd (cc))

blank_entries : (n x : ℕ) → entry_at (replicate n unseen) x ≡ unseen
blank_entries zero zero = refl
blank_entries zero (suc x) = refl
blank_entries (suc n) zero = refl
blank_entries (suc n) (suc x) = blank_entries n x

pub entry_added : (table : List Entry) (n x : ℕ) → entry_at (table ++ replicate n unseen) x ≡ entry_at table x
entry_added [] n zero = blank_entries n zero
entry_added [] n (suc x) = blank_entries n (suc x)
entry_added (e ∷ table) n zero = refl
entry_added (e ∷ table) n (suc x) = entry_added table n x

pub entry_reached : (old new : List Entry) (n k x : ℕ) (e : Entry) → length old ≤ n → e ≡ unseen → new ≡ take n old ++ replicate k e → entry_at new x ≡ entry_at old x
entry_reached old new n k x e l h i =
    ap (λ z. entry_at z x) (i ∙ (ap (λ z. take n old ++ replicate k z) h ∙ ap (λ z. z ++ replicate k unseen) (take_all n old l)))
    ∙ entry_added old k x

-- an entry that is read
pub entry_read : (table : List Entry) (y : ℕ) (e : Entry) → y < length table → e ≡ get_or table y e → e ≡ entry_at table y
entry_read table y e h i = i ∙ get_or_default table y e unseen h
