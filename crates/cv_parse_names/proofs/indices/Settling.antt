-- Looking for first definitions, task by task.
use Rattle.std.proofs.Common.{◌≡◌, ℕ, zero, suc, ◌+◌, ◌-◌, ◌*◌, ◌<◌, ◌≤◌, ◌==◌, nat_eq, Bool, true, false, if◌then◌else◌, List, [], ◌∷◌, ◌++◌, length, reverse, get_or, Option, Some, None, refl, ap, sym, ◌∙◌, subst, arith, append-nil, length-append}
use Rattle.std.proofs.Math.Path.{fun_ext}
use Rattle.std.specs.HashMap.{Updates}
use Rattle.std.specs.Map.{lookup}
use Rattle.std.proofs.lemmas.List.{reverse-append}
use Rattle.cv_syntax_trees.specs.declared.head.Head.{Head}
use Rattle.cv_syntax_trees.specs.declared.head.Head.TheVariants.{New, Let, Binder, Repl}
use Rattle.cv_syntax.specs.declared.make.Make.{Make}
use Rattle.cv_syntax.specs.declared.make.Make.TheVariants.{Nothing, Over}
use Rattle.cv_syntax_trees.specs.Tree.{Tree, Empty, Node}
use Rattle.cv_syntax.specs.Postorder.{postorder}
use Rattle.cv_parse_grammar.specs.Filled.{defines, first_site, under}
use Rattle.cv_parse_names.specs.indices.Current.{Numbers, numbers_of}
use Rattle.cv_parse_names.specs.indices.Sites.{defined_by, defining, tasks_at, part_before, settled, level_of, AreWithin}
use Rattle.cv_parse_names.specs.declared.indices.sites.Task.{Task}
use Rattle.cv_parse_names.specs.declared.indices.sites.Task.TheVariants.{Look, Define}
use Rattle.cv_parse_names.proofs.indices.Pending.{Pending, pending_whole, pending_same, pending_before}
use Rattle.cv_syntax_trees.specs.lists.Options.{first_of}

-- once the tasks are done, the first definitions in the tree are noted
abbrev pub Settles : Tree → List Task → Numbers → List Tree → Type 0
Settles t tasks sites trees = (x : ℕ) → settled x tasks trees (numbers_of sites x) ≡ first_site x 0 t

pub popped : {A : Type 0} (old new : List A) (x : A) → old ≡ new ++ x ∷ [] → reverse old ≡ x ∷ reverse new
popped old new x e = ap reverse e ∙ reverse-append new (x ∷ [])

-- the first task
pub settles_first : (makes : List Make) (t : Tree) (sites : Numbers) (tasks : List Task) → sites.entries ≡ [] → tasks ≡ Look 0 ∷ [] → makes ≡ postorder t → Pending makes (length makes) (Settles t (reverse tasks) sites)
unfolding settled
settles_first makes t sites tasks e f g = pending_whole makes (Settles t (reverse tasks) sites) t g (λ x. ap (λ l. settled x (reverse l) (t ∷ []) (numbers_of sites x)) f ∙ (ap (λ (es : List (ℕ × ℕ)). first_of (first_site x 0 t) (lookup (nat_eq x) es)) e ∙ first_none (first_site x 0 t)))
  where
    first_none : (o : Option ℕ) → first_of o None ≡ o
    first_none None = refl
    first_none (Some k) = refl

-- a definition is noted
pub settles_define : (makes : List Make) (at : ℕ) (t : Tree) (old new : List Task) (x level : ℕ) (m n : Numbers) → old ≡ new ++ Define x level ∷ [] → Updates nat_eq m n x (Some level) → Pending makes at (Settles t (reverse old) m) → Pending makes at (Settles t (reverse new) n)
unfolding settled
settles_define makes at t old new x level m n e u p =
    pending_same makes at (Settles t (reverse old) m) (Settles t (reverse new) n) (λ trees h y.
    ap (settled y (reverse new) trees) (u.0 y) ∙ (ap (λ l. settled y l trees (numbers_of m y)) (sym (popped old new (Define x level) e)) ∙ h y)) p

-- what a node defines

is_defined : Option ℕ → ℕ → Bool
is_defined None x = false
is_defined (Some y) x = y == x

defines_by : (h : Head) (x : ℕ) → defines h x ≡ is_defined (defined_by h) x
unfolding is_defined
defines_by (New y T) x = refl
defines_by (Let y T) x = refl
defines_by (Binder y T) x = refl
defines_by h x = refl

first_assoc : (a b c : Option ℕ) → first_of (first_of a b) c ≡ first_of a (first_of b c)
first_assoc None b c = refl
first_assoc (Some k) b c = refl

here_first : (d : Bool) (level : ℕ) (a b c : Option ℕ) → first_of (if d then Some level else first_of a b) c ≡ (if d then Some level else first_of a (first_of b c))
here_first true level a b c = refl
here_first false level a b c = first_assoc a b c

-- the tasks of a node do what looking at it does
node_settled : (x level : ℕ) (h : Head) (a b : Tree) (s : List Task) (trees : List Tree) (known : Option ℕ) → settled x (reverse (tasks_at level (Over h)) ++ s) (b ∷ (a ∷ trees)) known ≡ settled x (Look level ∷ s) (Node h a b ∷ trees) known
unfolding settled first_site is_defined
node_settled x level h a b s trees known =
    by_defined (defined_by h) ∙ ap (settled x s trees) (sym (ap (λ d. first_of (if d then Some level else first_of (first_site x level a) (first_site x (under h level) b)) known) (defines_by h x) ∙ here_first (is_defined (defined_by h) x) level (first_site x level a) (first_site x (under h level) b) known))
  where
    by_defined : (o : Option ℕ) → settled x (reverse (defining level o ++ Look level ∷ Look (under h level) ∷ []) ++ s) (b ∷ (a ∷ trees)) known ≡ settled x s trees (if is_defined o x then Some level else first_of (first_site x level a) (first_of (first_site x (under h level) b) known))
    by_defined None = refl
    by_defined (Some y) = refl

look_tasks : (old rest new : List Task) (level : ℕ) (m : Make) → new ≡ rest ++ tasks_at level m → reverse new ≡ reverse (tasks_at level m) ++ reverse rest
look_tasks old rest new level m e = ap reverse e ∙ reverse-append rest (tasks_at level m)

pub settles_look : (makes : List Make) (at next : ℕ) (t : Tree) (old rest new : List Task) (level : ℕ) (sites : Numbers) → old ≡ rest ++ Look level ∷ [] → new ≡ rest ++ tasks_at level (part_before makes at) → at ≤ length makes → next ≡ at - 1 → Pending makes at (Settles t (reverse old) sites) → Pending makes next (Settles t (reverse new) sites)
unfolding settled first_site
settles_look makes at next t old rest new level sites e f l g p =
    pending_before makes at next (Settles t (reverse old) sites) (Settles t (reverse new) sites) l g
    (λ n h x. ap (λ s. settled x s [] (numbers_of sites x)) (now_at Nothing n ∙ sym refl) ∙ (ap (λ s. settled x s [] (numbers_of sites x)) (sym (popped old rest (Look level) e)) ∙ h x))
    (λ n trees h x. ap (λ s. settled x s trees (numbers_of sites x)) (now_at Nothing n) ∙ (ap (λ s. settled x s (Empty ∷ trees) (numbers_of sites x)) (sym (popped old rest (Look level) e)) ∙ h x))
    (λ i n a b trees h x.
    ap (λ s. settled x s (b ∷ (a ∷ trees)) (numbers_of sites x)) (now_at (Over i) n)
    ∙ (node_settled x level i a b (reverse rest) trees (numbers_of sites x) ∙ (ap (λ s. settled x s (Node i a b ∷ trees) (numbers_of sites x)) (sym (popped old rest (Look level) e)) ∙ h x)))
    p
  where
    now_at : (m : Make) → part_before makes at ≡ m → reverse new ≡ reverse (tasks_at level m) ++ reverse rest
    now_at m n = look_tasks old rest new level m (f ∙ ap (λ k. rest ++ tasks_at level k) n)

-- no task is left
pub settles_end : (makes : List Make) (at : ℕ) (t : Tree) (tasks : List Task) (sites : Numbers) → tasks ≡ [] → Pending makes at (Settles t (reverse tasks) sites) → numbers_of sites ≡ λ x. first_site x 0 t
unfolding settled
settles_end makes at t tasks sites e p = fun_ext (λ x. ap (λ s. settled x (reverse s) p.trees (numbers_of sites x)) (sym e) ∙ p.holds x)

-- levels

within_less : (all at next : ℕ) (tasks : List Task) → next ≤ at → AreWithin all at tasks → AreWithin all next tasks
unfolding AreWithin
within_less all at next [] l w = tt
within_less all at next (k ∷ tasks) l w = (omega (arith, w.0), within_less all at next tasks l w.1)

pub within_first : (all : ℕ) (tasks : List Task) → tasks ≡ Look 0 ∷ [] → AreWithin all all (reverse tasks)
unfolding AreWithin
within_first all tasks e = subst (λ (l : List Task). AreWithin all all (reverse l)) (sym e) (omega arith, tt)

pub within_task : (all at : ℕ) (old new : List Task) (k : Task) → old ≡ new ++ k ∷ [] → AreWithin all at (reverse old) → level_of k + at ≤ all
unfolding AreWithin
within_task all at old new k e w = (subst (AreWithin all at) (popped old new k e) w).0

pub within_rest : (all at : ℕ) (old new : List Task) (k : Task) → old ≡ new ++ k ∷ [] → AreWithin all at (reverse old) → AreWithin all at (reverse new)
unfolding AreWithin
within_rest all at old new k e w = (subst (AreWithin all at) (popped old new k e) w).1

under_less : (h : Head) (k : ℕ) → under h k ≤ k + 1
under_less (Repl i n) k = omega arith
under_less h k = omega arith

within_node : (all at level : ℕ) (h : Head) (s : List Task) → level + (at + 1) ≤ all → AreWithin all at s → AreWithin all at (reverse (tasks_at level (Over h)) ++ s)
unfolding AreWithin
within_node all at level h s l w = by_defined (defined_by h)
  where
    below : under h level + at ≤ all
    below = omega (arith, under_less h level)

    here : level + at ≤ all
    here = omega arith

    by_defined : (o : Option ℕ) → AreWithin all at (reverse (defining level o ++ Look level ∷ Look (under h level) ∷ []) ++ s)
    by_defined None = (below, (here, w))
    by_defined (Some y) = (below, (here, (here, w)))

pub within_look : (makes : List Make) (at next : ℕ) (old rest new : List Task) (level : ℕ) → old ≡ rest ++ Look level ∷ [] → new ≡ rest ++ tasks_at level (part_before makes at) → next ≡ at - 1 → AreWithin (length makes) at (reverse old) → AreWithin (length makes) next (reverse new)
within_look makes at next old rest new level e f g w = by_place at g f w
  where
    by_place : (at : ℕ) → next ≡ at - 1 → new ≡ rest ++ tasks_at level (part_before makes at) → AreWithin (length makes) at (reverse old) → AreWithin (length makes) next (reverse new)
    by_place zero g f w = subst (λ (l : List Task). AreWithin (length makes) next (reverse l)) (sym (f ∙ append-nil rest)) (within_less (length makes) zero next (reverse rest) (omega arith) (within_rest (length makes) zero old rest (Look level) e w))
    by_place (suc k) g f w =
        by_make (get_or makes k Nothing) f
      where
        low : level + suc k ≤ length makes
        low = within_task (length makes) (suc k) old rest (Look level) e w

        less : AreWithin (length makes) next (reverse rest)
        less = within_less (length makes) (suc k) next (reverse rest) (omega arith) (within_rest (length makes) (suc k) old rest (Look level) e w)

        by_make : (m : Make) → new ≡ rest ++ tasks_at level m → AreWithin (length makes) next (reverse new)
        by_make Nothing f = subst (λ (l : List Task). AreWithin (length makes) next (reverse l)) (sym (f ∙ append-nil rest)) less
        by_make (Over h) f = subst (AreWithin (length makes) next) (sym (look_tasks old rest new level (Over h) f)) (within_node (length makes) next level h (reverse rest) (omega (arith, low)) less)

-- the work that is left

tasks_few : (level : ℕ) (m : Make) → length (tasks_at level m) ≤ 3
tasks_few level Nothing = omega arith
tasks_few level (Over h) = by_defined (defined_by h)
  where
    by_defined : (o : Option ℕ) → length (defining level o ++ Look level ∷ Look (under h level) ∷ []) ≤ 3
    by_defined None = omega arith
    by_defined (Some y) = omega arith

pub look_less : (makes : List Make) (at next : ℕ) (old rest new : List Task) (level : ℕ) → old ≡ rest ++ Look level ∷ [] → new ≡ rest ++ tasks_at level (part_before makes at) → next ≡ at - 1 → 4 * next + length new < 4 * at + length old
look_less makes at next old rest new level e f g = by_place at g f
  where
    by_place : (at : ℕ) → next ≡ at - 1 → new ≡ rest ++ tasks_at level (part_before makes at) → 4 * next + length new < 4 * at + length old
    by_place zero g f = omega (arith, ap length (f ∙ append-nil rest), ap length e, length-append rest (Look level ∷ []))
    by_place (suc k) g f = omega (arith, ap length f, length-append rest (tasks_at level (get_or makes k Nothing)), tasks_few level (get_or makes k Nothing), ap length e, length-append rest (Look level ∷ []))
