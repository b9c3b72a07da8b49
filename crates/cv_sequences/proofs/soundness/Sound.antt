-- The eight elementary steps are sound.
use Rattle.std.proofs.Common.{ℕ}
use Rattle.std.proofs.lemmas.Bool.{and_parts}
use Rattle.cv_syntax_trees.specs.Tree.{Tree}
use Rattle.cv_scene.specs.Pruning.{Part}
use Rattle.cv_scene.specs.Scenes.{has_place, is_type}
use Rattle.cv_derive_laws.specs.stores.Steps.{IsSound}
use Rattle.cv_steps.specs.Elementary.{let_step, new_step, prune_step, rename_step, rewrite_step, split_step, unlet_step, unnew_step}
use Rattle.cv_derive_laws.proofs.stores.Costs.{free_taped, kept_costs}
use Rattle.cv_steps_laws.proofs.Declared.{let_declared, new_declared, prune_declared, rename_declared, rewrite_declared, split_declared, unlet_declared, unnew_declared}
use Rattle.cv_steps_laws.proofs.Free.{let_free, new_free, prune_free, rename_free, rewrite_free, split_free, unlet_free, unnew_free}
use Rattle.cv_steps_laws.proofs.Keeping.{accepted, assigns, chooses, drops, next_formed, splits, term_phrase}
use Rattle.cv_steps_derivations.proofs.pruning.Keeping.{prunes}
use Rattle.cv_steps_laws.proofs.renaming.Keeping.{renames}
use Rattle.cv_steps_derivations.proofs.rewriting.Keeping.{rewrites}
use Rattle.cv_steps_derivations.proofs.unletting.Keeping.{unlets}
use Rattle.cv_context_right_side.proofs.queries.Steps.{let_bound, new_bound, prune_bound, rename_bound, rewrite_bound, split_bound, unlet_bound, unnew_bound}
use Rattle.cv_sequences.proofs.soundness.Valued.{let_valued, new_valued, prune_valued, rename_valued, rewrite_valued, split_valued, unlet_valued, unnew_valued}

pub split_sound : (p : ℕ) (m : Tree) → IsSound (split_step p m)
split_sound p m = record {
  keeps = λ s next cost w d u k e.
      let r = accepted s (split_step p m) next cost e in
      kept_costs s.declarations s.game next cost (splits s p m next cost w.formed (term_phrase s p m (and_parts (has_place s p) _ r.stands).1) r.row);
  taped = λ s next cost e i sat. free_taped _ (split_free s p m) next cost (accepted s (split_step p m) next cost e).row i;
  declared = split_declared p m;
  valued = split_valued p m;
  bound = split_bound p m;
}

pub let_sound : (p x T : ℕ) (m : Tree) → IsSound (let_step p x T m)
let_sound p x T m = record {
  keeps = λ s next cost w d u k e.
      let r = accepted s (let_step p x T m) next cost e in
      kept_costs s.declarations s.game next cost (assigns s p x T m next cost w.formed k (term_phrase s p m (and_parts (is_type s T) _ (and_parts (has_place s p) _ r.stands).1).1) r.row);
  taped = λ s next cost e i sat. free_taped _ (let_free s p x T m) next cost (accepted s (let_step p x T m) next cost e).row i;
  declared = let_declared p x T m;
  valued = let_valued p x T m;
  bound = let_bound p x T m;
}

pub new_sound : (p x T : ℕ) → IsSound (new_step p x T)
new_sound p x T = record {
  keeps = λ s next cost w d u k e. kept_costs s.declarations s.game next cost (chooses s p x T next cost w.formed k (accepted s (new_step p x T) next cost e).row);
  taped = λ s next cost e i sat. free_taped _ (new_free s p x T) next cost (accepted s (new_step p x T) next cost e).row i;
  declared = new_declared p x T;
  valued = new_valued p x T;
  bound = new_bound p x T;
}

pub unnew_sound : (x : ℕ) → IsSound (unnew_step x)
unnew_sound x = record {
  keeps = λ s next cost w d u k e. kept_costs s.declarations s.game next cost (drops s x next cost w.formed (accepted s (unnew_step x) next cost e).row);
  taped = λ s next cost e i sat. free_taped _ (unnew_free s x) next cost (accepted s (unnew_step x) next cost e).row i;
  declared = unnew_declared x;
  valued = unnew_valued x;
  bound = unnew_bound x;
}

pub rename_sound : (x y : ℕ) → IsSound (rename_step x y)
rename_sound x y = record {
  keeps = λ s next cost w d u k e.
      kept_costs s.declarations s.game next cost
      (renames s x y next cost w.formed k (next_formed s (rename_step x y) next cost e).constants (accepted s (rename_step x y) next cost e).row);
  taped = λ s next cost e i sat. free_taped _ (rename_free s x y) next cost (accepted s (rename_step x y) next cost e).row i;
  declared = rename_declared x y;
  valued = rename_valued x y;
  bound = rename_bound x y;
}

pub unlet_sound : (x : ℕ) → IsSound (unlet_step x)
unlet_sound x = record {
  keeps = λ s next cost w d u k e. kept_costs s.declarations s.game next cost (unlets s x next cost w.formed (accepted s (unlet_step x) next cost e).row);
  taped = λ s next cost e i sat. free_taped _ (unlet_free s x) next cost (accepted s (unlet_step x) next cost e).row i;
  declared = unlet_declared x;
  valued = unlet_valued x;
  bound = unlet_bound x;
}

pub rewrite_sound : (p : ℕ) (m by : Tree) → IsSound (rewrite_step p m by)
rewrite_sound p m by = record {
  keeps = λ s next cost w d u k e.
      let r = accepted s (rewrite_step p m by) next cost e in
      kept_costs s.declarations s.game next cost (rewrites s p m by next cost w d (and_parts (has_place s p) _ r.stands).1 r.row);
  taped = λ s next cost e i sat. free_taped _ (rewrite_free s p m by) next cost (accepted s (rewrite_step p m by) next cost e).row i;
  declared = rewrite_declared p m by;
  valued = rewrite_valued p m by;
  bound = rewrite_bound p m by;
}

pub prune_sound : (p : ℕ) (part : Part) (by : Tree) → IsSound (prune_step p part by)
prune_sound p part by = record {
  keeps = λ s next cost w d u k e. kept_costs s.declarations s.game next cost (prunes s p part by next cost w u (accepted s (prune_step p part by) next cost e).row);
  taped = λ s next cost e i sat. free_taped _ (prune_free s p part by) next cost (accepted s (prune_step p part by) next cost e).row i;
  declared = prune_declared p part by;
  valued = prune_valued p part by;
  bound = prune_bound p part by;
}
