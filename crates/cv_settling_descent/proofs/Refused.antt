-- A step that leaves an orphan leads to no game.
use Rattle.std.proofs.Common.{◌≡◌, ℕ, ◌||◌, Bool, true, false, List, refl, ap₂, subst}
use Rattle.std.proofs.lemmas.Bool.{both_ways, and_parts, or_left}
use Rattle.cv_syntax_trees.specs.Declarations.{Declaration}
use Rattle.cv_syntax_trees.specs.Tree.{Tree}
use Rattle.cv_meaning.specs.Interpretation.{is_constant_of}
use Rattle.cv_meaning_chances.specs.unread.Dropping.{reads_none}
use Rattle.cv_scope_rules.specs.Phrases.{Inputs, binds_none, is_phrase}
use Rattle.cv_scope_rules.specs.Scope.{is_untyped_in, is_variable}
use Rattle.cv_scope_rules.proofs.Unbound.{no_variable}
use Rattle.cv_scene.specs.Pruning.{Part}
use Rattle.cv_scene.specs.Scenes.{Scene, part_at}
use Rattle.cv_scene.specs.Terms.{has_site, is_game, is_there, names_anywhere}
use Rattle.cv_steps.specs.Changes.{only}
use Rattle.cv_steps.specs.Rows.{prune_row}
use Rattle.cv_steps.specs.Steps.{Cost, Leads}
use Rattle.cv_steps.proofs.Pruned.{prune_leads}
use Rattle.cv_steps_laws.proofs.Indices.{Lacks, lacking_changed, lacking_left}
use Rattle.cv_steps_laws.proofs.Keeping.{IsGame, game_formed}
use Rattle.cv_settling_rules.specs.Measure.{lowers}
use Rattle.cv_settling_measures.specs.Orphans.{HasNoOrphan, IsOrphan}
use Rattle.cv_settling_measures.proofs.Pruning.{prune_lowers}
use Rattle.cv_settling_descent.proofs.Orphans.{no_index_of, none_listed, none_untyped, unread_in_next}

pub names_there : (ds : List Declaration) (game : Tree) → is_game ds game ≡ true → is_there (names_anywhere ds game) Inputs game ≡ true
names_there ds game e =
    let p = and_parts (is_phrase Inputs game) _ e in
    let q = and_parts (binds_none (is_constant_of ds) game) _ p.1 in
    (and_parts (is_there (names_anywhere ds game) Inputs game) _ q.1).0

not_constant : (ds : List Declaration) (game : Tree) (x : ℕ) → binds_none (is_constant_of ds) game ≡ true → is_variable game x ≡ true → is_constant_of ds x ≡ false
not_constant ds game x e v = go (is_constant_of ds x) refl
  where
    go : (b : Bool) → is_constant_of ds x ≡ b → b ≡ false
    go true f = absurd (both_ways (is_variable game x) (no_variable (is_constant_of ds) x f game e) v)
    go false f = refl

-- where the next game binds no index besides, its variables have sites that it reads
pub no_orphan : (ds : List Declaration) (game next : Tree) → is_game ds game ≡ true → is_game ds next ≡ true → ((i : ℕ) → Lacks i game → Lacks i next) → HasNoOrphan game next
no_orphan ds game next g e k x o =
    let i : IsGame ds game = game_formed ds game g in
    let j : IsGame ds next = game_formed ds next e in
    let variable : is_variable game x ≡ true = or_left (has_site game x) (is_untyped_in x game) o.before in
    let gone : is_variable next x ≡ false = ap₂ ◌||◌ o.after (none_untyped x Inputs next j.formed.phrase) in
    let free = none_listed (names_anywhere ds next) x o.after Inputs next j.formed.phrase (names_there ds next e) in
    both_ways (reads_none (only x) next) o.read
    (unread_in_next ds next j.formed x (not_constant ds game x i.formed.constants variable) (k x (no_index_of ds game i.formed x variable)) gone free)

pub pruned_indices : (s : Scene) (p : ℕ) (part : Part) (by next : Tree) (cost : Cost) → prune_row s p part by ≡ Leads next cost → (i : ℕ) → Lacks i s.game → Lacks i next
pruned_indices s p part by next cost e i l =
    let d = prune_leads s p part by next cost e in
    subst (Lacks i) d.leads (lacking_changed i s p (λ t. d.gone.left) l (lacking_left i p (part_at s.game p) part d.gone d.stands))

-- so it has no orphan where it is a game
pub pruned_game_lowers : (s : Scene) (p : ℕ) (part : Part) (by next : Tree) (cost : Cost) → is_game s.declarations s.game ≡ true → prune_row s p part by ≡ Leads next cost → is_game s.declarations next ≡ true → lowers s next ≡ true
pruned_game_lowers s p part by next cost g e f = prune_lowers s p part by next cost g e (no_orphan s.declarations s.game next g f (pruned_indices s p part by next cost e))

pub orphan_refused : (s : Scene) (p : ℕ) (part : Part) (by next : Tree) (cost : Cost) (x : ℕ) → is_game s.declarations s.game ≡ true → prune_row s p part by ≡ Leads next cost → IsOrphan s.game next x → is_game s.declarations next ≡ false
orphan_refused s p part by next cost x g e o = go (is_game s.declarations next) refl
  where
    go : (v : Bool) → is_game s.declarations next ≡ v → v ≡ false
    go true f = absurd (no_orphan s.declarations s.game next g f (pruned_indices s p part by next cost e) x o)
    go false f = refl
