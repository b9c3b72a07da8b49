-- Copies that a run visited are reached at its end.
use Rattle.std.proofs.Common.{ℕ, List}
use Rattle.std.specs.List.{AllByRecursion}
use Rattle.cv_syntax.specs.Layouts.{IsSyntax}
use Rattle.cv_meaning.specs.Interpretation.{Interpretation, setting_of}
use Rattle.cv_meaning.specs.Runs.{State}
use Rattle.cv_meaning.specs.Serving.{Visit}
use Rattle.cv_meaning_laws.specs.adequacy.Broken.{StandsAt}
use Rattle.cv_meaning_laws.specs.adequacy.Typed.{IsTypedStore}
use Rattle.cv_scope_runs.specs.Promises.{GrowsToEnd}
use Rattle.cv_typing_runs.specs.Games.{context_of}
use Rattle.cv_derive_facts.specs.Promises.{PlaceStands, SitesStand}
use Rattle.cv_scene.specs.Scenes.{Scene}
use Rattle.cv_derive_laws.specs.late.Unassigned.{IsWellVisited}
use Rattle.cv_derive_laws.specs.reached.Copies.{AreReachedInPairs, WasVisited}
use Rattle.cv_syntax_trees.proofs.lists.Options.{AllByRecursion_slice_get}

module _ (s : Scene) (i : Interpretation) (last : State) (vs : List Visit) (places : AllByRecursion (PlaceStands (setting_of s.declarations i) s.game) vs) (grow : AllByRecursion (GrowsToEnd last) vs) (sites : SitesStand (setting_of s.declarations i) s.game last.memory)
    (types : IsTypedStore (context_of s.declarations s.game) i last.memory.store) (visited : AllByRecursion IsWellVisited vs) where
  was_visited : (n : ℕ) (v : Visit) → StandsAt vs n v → IsSyntax v.tree → WasVisited s i v.place v.before.indices last.memory
  was_visited n v e t =
      let r = AllByRecursion_slice_get (PlaceStands (setting_of s.declarations i) s.game) vs places n v e t in
      record {
        context = r.0;
        known = r.1;
        stands = r.3 last.memory (AllByRecursion_slice_get (GrowsToEnd last) vs grow n v e);
        sites = λ y p Γ f u k h. let z = sites y p Γ f u k h in (z.0, z.1, z.2 last.memory (record { store = λ x w c d. d; events = λ c d. d }));
        types = types;
      }

  pub reached_in_pairs : AreReachedInPairs s i last.memory vs
  reached_in_pairs m n v w e f t u k above = record {
    first = was_visited m v e t;
    second = was_visited n w f u;
    found = (AllByRecursion_slice_get IsWellVisited vs visited n w f).found;
    above = above;
  }
