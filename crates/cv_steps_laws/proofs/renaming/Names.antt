-- Names that are exchanged, and names that stay apart.
use Rattle.std.proofs.Common.{◌≡◌, ℕ, ◌==◌, ◌&&◌, Bool, true, false, cond, refl, sym, ap, ap₂, ◌∙◌, eq-eqb, eqb-true}
use Rattle.std.proofs.lemmas.Bool.{both_ways, or_parts}
use Rattle.cv_syntax_trees.specs.declared.head.Head.{Head}
use Rattle.cv_syntax_trees.specs.declared.head.Head.TheVariants.{Binder, Call, Key, Leaf, Let, Name, New, Read, Repl}
use Rattle.cv_syntax_trees.specs.Tree.{Tree, Empty, Node}
use Rattle.cv_scene.specs.Scenes.{head_names, names}
use Rattle.cv_scope_rules.specs.Phrases.{head_binds_none, binds_none}
use Rattle.cv_steps.specs.Renaming.{renamed_name, renamed_head, renamed}
use Rattle.cv_steps_laws.specs.renaming.Naming.{exchanged, head_with_names, with_names}

-- a test of names that stay apart
pub apart_alike : (name : ℕ → ℕ) → ((x y : ℕ) → name x ≡ name y → x ≡ y) → (x y : ℕ) → (name x == name y) ≡ (x == y)
apart_alike name k x y = go (x == y) (name x == name y) refl refl
  where
    go : (v w : Bool) → (x == y) ≡ v → (name x == name y) ≡ w → w ≡ v
    go true true e f = refl
    go true false e f = absurd (both_ways _ f (eq-eqb (name x) (name y) (ap name (eqb-true x y e))))
    go false true e f = absurd (both_ways _ e (eq-eqb x y (k x y (eqb-true (name x) (name y) f))))
    go false false e f = refl

-- exchanged names

pub exchanged_first : (x y : ℕ) → exchanged x y x ≡ y
exchanged_first x y = ap (λ b. cond b y (cond (x == y) x x)) (eq-eqb x x refl)

pub exchanged_second : (x y : ℕ) → exchanged x y y ≡ x
exchanged_second x y = go (y == x) refl
  where
    go : (b : Bool) → (y == x) ≡ b → cond b y (cond (y == y) x y) ≡ x
    go true e = eqb-true y x e
    go false e = ap (λ b. cond b x y) (eq-eqb y y refl)

pub exchanged_other : (x y z : ℕ) → (z == x) ≡ false → (z == y) ≡ false → exchanged x y z ≡ z
exchanged_other x y z e f = ap₂ (λ b c. cond b y (cond c x z)) e f

pub exchanged_back : (x y z : ℕ) → exchanged x y (exchanged x y z) ≡ z
exchanged_back x y z = go (z == x) (z == y) refl refl
  where
    go : (b c : Bool) → (z == x) ≡ b → (z == y) ≡ c → exchanged x y (cond b y (cond c x z)) ≡ z
    go true c e f = exchanged_second x y ∙ sym (eqb-true z x e)
    go false true e f = exchanged_first x y ∙ sym (eqb-true z y f)
    go false false e f = exchanged_other x y z e f

pub exchanged_apart : (x y v w : ℕ) → exchanged x y v ≡ exchanged x y w → v ≡ w
exchanged_apart x y v w e = sym (exchanged_back x y v) ∙ ap (exchanged x y) e ∙ exchanged_back x y w

-- in a tree that has not the new name, to rename is to exchange

name_exchanged : (x y z : ℕ) → (z == y) ≡ false → renamed_name x y z ≡ exchanged x y z
name_exchanged x y z e = ap (λ b. cond (z == x) y (cond b x z)) (sym e)

head_exchanged : (x y : ℕ) (h : Head) → head_names y h ≡ false → renamed_head x y h ≡ head_with_names (exchanged x y) h
head_exchanged x y (Repl i n) e = ap (λ z. Repl z n) (name_exchanged x y i e)
head_exchanged x y (Name i) e = ap (λ z. Name z) (name_exchanged x y i e)
head_exchanged x y (New v T) e = ap (λ z. New z T) (name_exchanged x y v e)
head_exchanged x y (Let v T) e = ap (λ z. Let z T) (name_exchanged x y v e)
head_exchanged x y (Binder v T) e = ap (λ z. Binder z T) (name_exchanged x y v e)
head_exchanged x y (Leaf v) e = ap (λ z. Leaf z) (name_exchanged x y v e)
head_exchanged x y (Read v) e = ap (λ z. Read z) (name_exchanged x y v e)
head_exchanged x y (Key v) e = ap (λ z. Key z) (name_exchanged x y v e)
head_exchanged x y (Call v l) e = ap (λ z. Call z l) (name_exchanged x y v e)
head_exchanged x y h e = refl

pub renamed_exchanged : (x y : ℕ) (t : Tree) → names y t ≡ false → renamed x y t ≡ with_names (exchanged x y) t
unfolding names renamed with_names
renamed_exchanged x y Empty e = refl
renamed_exchanged x y (Node h a b) e =
    let p = or_parts (head_names y h) _ e in
    let q = or_parts (names y a) (names y b) p.1 in
    λ i. Node (head_exchanged x y h p.0 i) (renamed_exchanged x y a q.0 i) (renamed_exchanged x y b q.1 i)

-- what a tree binds under other names

head_binds : (on : ℕ → Bool) (name : ℕ → ℕ) (h : Head) → head_binds_none on (head_with_names name h) ≡ head_binds_none (λ z. on (name z)) h
head_binds on name (Repl i n) = refl
head_binds on name (New v T) = refl
head_binds on name (Let v T) = refl
head_binds on name (Binder v T) = refl
head_binds on name (Key v) = refl
head_binds on name (Call v l) = refl
head_binds on name h = refl

pub binds_under : (on : ℕ → Bool) (name : ℕ → ℕ) (t : Tree) → binds_none on (with_names name t) ≡ binds_none (λ z. on (name z)) t
unfolding binds_none with_names
binds_under on name Empty = refl
binds_under on name (Node h a b) = λ i. head_binds on name h i && (binds_under on name a i && binds_under on name b i)
