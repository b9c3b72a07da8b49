-- What the only definition of a variable assigns, as a directory tells it.
use Rattle.std.proofs.Common.{◌≡◌, ℕ, ◌≤◌, min, Bool, true, false, cond, List, [], ◌∷◌, length, map, Option, Some, None, refl, sym, ap, subst, ◌∙◌, arith, eqb-true, ◌==◌}
use Rattle.std.specs.Prelude.{option_map, slice_get}
use Rattle.std.proofs.lemmas.Bool.{eqb-false}
use Rattle.cv_pool.specs.KindTree.{KindTree}
use Rattle.cv_syntax_trees.specs.declared.head.Head.{Head}
use Rattle.cv_syntax_trees.specs.declared.head.Head.TheVariants.{Let}
use Rattle.cv_syntax_trees.specs.Tree.{Tree, Empty, Node, size, subtree}
use Rattle.cv_syntax.specs.PoolTrees.{tree_at}
use Rattle.cv_syntax.proofs.Walking.{size_node}
use Rattle.cv_directory.specs.declared.directory.Directory.{Directory}
use Rattle.cv_directory.specs.Definitions.{Definition, most}
use Rattle.cv_directory.specs.Tables.{entries_in}
use Rattle.cv_scope_rules.specs.Behind.{sites_of}
use Rattle.cv_scope_rules.specs.Context.{Context}
use Rattle.cv_derive_facts.specs.Definitions.{definition_entry, site_entry}
use Rattle.cv_derive_reasons.specs.cells.Only.{only_place, replications_by}
use Rattle.cv_scene.specs.Scenes.{or_empty, part_at}
use Rattle.cv_path.proofs.extents.Extents.{size_part}
use Rattle.cv_steps.specs.Unletting.{Assignment, assigned_in, assignment_by, only_assignment}
use Rattle.cv_edit_changes.specs.declared.unletting.assigned.Assigned.{Assigned}
use Rattle.cv_edit_changes.specs.unletting.Assigned.{IsAssigned, IsRead}
use Rattle.cv_syntax_trees.proofs.lists.Options.{some_pair_first, some_pair_second}

abbrev place_by : Option Definition → ℕ → Option ℕ
place_by o n = cond (n == 1) (option_map (λ (d : Definition). d.place) o) None

-- the only site, by the first definition and their number
pub record IsOnly (game : Tree) (sites : List (ℕ × Context)) (o : Option Definition) (p : ℕ) : Type 0 where
  pub behind : Context
  pub assigns : assignment_by game sites ≡ option_map (λ m. record { term = m; behind = behind }) (assigned_in (part_at game p))
  pub rows : replications_by o ≡ behind.replications

module _ (game : Tree) where
  one : (s : ℕ × Context) (d : Definition) (p : ℕ) → Some (definition_entry d) ≡ Some (site_entry s) → Some p ≡ Some d.place → IsOnly game (s ∷ []) (Some d) p
  one s d p f e =
      let a : p ≡ d.place = cc in
      let b : d.place ≡ s.0 = some_pair_first (definition_entry d) (site_entry s) f in
      record {
        behind = s.1;
        assigns = ap (λ q. option_map (λ m. record { term = m; behind = s.1 }) (assigned_in (part_at game q))) (sym (a ∙ b));
        rows = some_pair_second (definition_entry d) (site_entry s) f;
      }

  only_one : (sites : List (ℕ × Context)) (o : Option Definition) (n p : ℕ) → n ≡ min (length sites) most → option_map definition_entry o ≡ slice_get (map site_entry sites) 0 → n ≡ 1 → Some p ≡ option_map (λ (d : Definition). d.place) o → IsOnly game sites o p
  only_one [] o n p c f i e = absurd (omega (arith, c, i))
  only_one (s ∷ []) None n p c f i e = absurd (let z = f in cc)
  only_one (s ∷ []) (Some d) n p c f i e = one s d p f e
  only_one (s ∷ (t ∷ sites)) o n p c f i e = absurd (omega (arith, c, i))

  not_one : (sites : List (ℕ × Context)) (n : ℕ) → n ≡ min (length sites) most → (n ≡ 1 → ⊥) → assignment_by game sites ≡ None
  not_one [] n c i = refl
  not_one (s ∷ []) n c i = absurd (i (omega (arith, c)))
  not_one (s ∷ (t ∷ sites)) n c i = refl

  placed : (sites : List (ℕ × Context)) (o : Option Definition) (n p : ℕ) → n ≡ min (length sites) most → option_map definition_entry o ≡ slice_get (map site_entry sites) 0 → (v : Bool) → (n == 1) ≡ v → Some p ≡ cond v (option_map (λ (d : Definition). d.place) o) None → IsOnly game sites o p
  placed sites o n p c f true i e = only_one sites o n p c f (eqb-true n 1 i) e
  placed sites o n p c f false i e = absurd (let z = e in cc)

  no_place : (sites : List (ℕ × Context)) (n : ℕ) (o : Option Definition) → n ≡ min (length sites) most → option_map definition_entry o ≡ slice_get (map site_entry sites) 0 → n ≡ 1 → None ≡ option_map (λ (d : Definition). d.place) o → ⊥
  no_place [] n o c f i e = omega (arith, c, i)
  no_place (s ∷ sites) n None c f i e = let z = f in cc
  no_place (s ∷ sites) n (Some d) c f i e = let z = e in cc

  unplaced : (sites : List (ℕ × Context)) (o : Option Definition) (n : ℕ) → n ≡ min (length sites) most → option_map definition_entry o ≡ slice_get (map site_entry sites) 0 → (v : Bool) → (n == 1) ≡ v → None ≡ cond v (option_map (λ (d : Definition). d.place) o) None → assignment_by game sites ≡ None
  unplaced sites o n c f true i e = absurd (no_place sites n o c f (eqb-true n 1 i) e)
  unplaced sites o n c f false i e = not_one sites n c (eqb-false n 1 i)

module _ (trees : List KindTree) (game : Tree) (d : Directory) (x : ℕ) (read : IsRead trees game d) where
  nothing : (m : Option Assignment) → m ≡ None → IsAssigned trees d x None m
  nothing m e = subst (IsAssigned trees d x None) (sym e) tt

  pub without_place : None ≡ only_place (entries_in trees d) x → IsAssigned trees d x None (only_assignment game x)
  without_place e = nothing (only_assignment game x) (unplaced game (sites_of game x) ((entries_in trees d).first x) ((entries_in trees d).count x) (read.count x) (read.first x) ((entries_in trees d).count x == 1) refl e)

  module _ (p : ℕ) (e : Some p ≡ only_place (entries_in trees d) x) where
    only : IsOnly game (sites_of game x) ((entries_in trees d).first x) p
    only = placed game (sites_of game x) ((entries_in trees d).first x) ((entries_in trees d).count x) p (read.count x) (read.first x) ((entries_in trees d).count x == 1) refl e

    by_part : (o : Option Tree) → assigned_in (part_at game p) ≡ o → only_assignment game x ≡ option_map (λ m. record { term = m; behind = only.behind }) o
    by_part o f = only.assigns ∙ ap (option_map (λ m. record { term = m; behind = only.behind })) f

    -- there is no `let`
    pub assigns_nothing : assigned_in (part_at game p) ≡ None → IsAssigned trees d x None (only_assignment game x)
    assigns_nothing f = nothing (only_assignment game x) (by_part None f)

    -- there is one
    pub assigns_term : (a : Assigned) (m : Tree) → assigned_in (part_at game p) ≡ Some m → tree_at trees a.term ≡ m → IsAssigned trees d x (Some a) (only_assignment game x)
    assigns_term a m f g = subst (IsAssigned trees d x (Some a)) (sym (by_part (Some m) f)) (g, ap (map (λ (r : ℕ × ℕ). r.0)) only.rows)

-- what stands at a place

pub part_there : (game : Tree) (p : ℕ) (t : Tree) → subtree game p ≡ Some t → part_at game p ≡ t
part_there game p t e = ap or_empty e

pub term_small : (game : Tree) (p : ℕ) (t : Tree) (h : Head) (a b : Tree) → subtree game p ≡ Some t → t ≡ Node h a b → size a ≤ size game
term_small game p t h a b e f = omega (arith, size_part game p t e, size_node t h a b f)

-- a node that is no `let` assigns nothing
pub no_let : (h : Head) (a b : Tree) → ((x T : ℕ) → h ≡ Let x T → ⊥) → assigned_in (Node h a b) ≡ None
no_let (Let x T) a b n = absurd (n x T refl)
no_let h a b n = refl
