-- Steps that were found, given back as a proof block, lead along one course.
use Rattle.std.proofs.Common.{◌≡◌, ℕ, ◌≤◌, Bool, true, false, List, [], ◌∷◌, ◌++◌, append-nil, length, map, take, Option, Some, None, refl, ap, ap₂, sym, ◌∙◌, subst, arith}
use Rattle.std.proofs.lemmas.List.{length-map, length-append}
use Rattle.std.specs.List.{flat_map}
use Rattle.cv_library.specs.Givens.{Given}
use Rattle.cv_pool.specs.names.Texts.{NoRepeat}
use Rattle.cv_syntax.specs.declared.work.File.{File}
use Rattle.cv_syntax.specs.PoolTrees.{tree_at}
use Rattle.cv_syntax_trees.specs.Declarations.{Declaration}
use Rattle.cv_syntax_trees.specs.Tree.{Tree}
use Rattle.cv_meaning.specs.Queries.{queries_in}
use Rattle.cv_accept.specs.Accepted.{Content, most_pool}
use Rattle.cv_costs.specs.Factors.{parameters_in}
use Rattle.cv_kernel.specs.Drawings.{Draws, game_after, told}
use Rattle.cv_kernel.specs.Followed.{known_to}
use Rattle.cv_kernel.specs.Proofs.{Transition}
use Rattle.cv_report.specs.declared.report.Report.{Report}
use Rattle.cv_report.specs.declared.report.Verdict.{Verdict}
use Rattle.cv_report.specs.Lines.{lines_text}
use Rattle.cv_report.specs.Text.{verdicts_asked}
use Rattle.cv_scene.specs.Scenes.{Scene}
use Rattle.cv_script.specs.Views.{StepItems, items_of_step}
use Rattle.cv_script.specs.Views as items
use Rattle.cv_steps.specs.Sequences.{scene}
use Rattle.cv_follow.specs.Courses.{Course, DrawsThrough, IsCourse, Table, lines_of, names_behind}
use Rattle.cv_follow.specs.Fillings.{StandsBy}
use Rattle.cv_follow.specs.Scripts.{is_without_block, verdicts_of}
use Rattle.cv_follow_laws.specs.GivenBack.{AreGivenBack, AreNameless, gives_names, steps_of, with_block}
use Rattle.cv_follow_laws.specs.Reports.{FollowsScript, IsReportOf, Proceeds, body_text, file_in, query_in}
use Rattle.cv_follow_laws.proofs.Alike.{HaveOneList, IsIts, front_taken, one_course}
use Rattle.cv_follow_laws.proofs.Names.{stand_once}
use Rattle.cv_follow_laws.proofs.Printed.{parameter_of, parameters_are}

-- what is drawn where steps are found is drawn where they are followed, if they give no names

draws_alike : (before after : List (List ℕ)) (own : ℕ) (s : Scene) (o : Option StepItems) (next : Tree) → gives_names o ≡ false → Draws true before after own s o next → Draws false before after own s o next
draws_alike before after own s None next e d = d
draws_alike before after own s (Some (items.Rename x to)) next e d = d
draws_alike before after own s (Some (items.Rewrite p m by)) next e d = d
draws_alike before after own s (Some (items.Prune p part by)) next e d = d
draws_alike before after own s (Some (items.Pick p ms by at)) next e d = d
draws_alike before after own s (Some (items.Merge p)) next e d = d
draws_alike before after own s (Some (items.Split p m)) next e d = d
draws_alike before after own s (Some (items.Let p x t m)) next e d = d
draws_alike before after own s (Some (items.Unlet x)) next e d = d
draws_alike before after own s (Some (items.New p x t)) next e d = d
draws_alike before after own s (Some (items.Unnew x)) next e d = d
draws_alike before after own s (Some (items.Move p)) next e d = d
draws_alike before after own s (Some (items.ArrayRename x to)) next e d = absurd (cc)
draws_alike before after own s (Some (items.Codef p add to from above)) next e d = d
draws_alike before after own s (Some (items.Birthday x at)) next e d = d
draws_alike before after own s (Some (items.Guess x at)) next e d = d
draws_alike before after own s (Some (items.Fresh p)) next e d = d
draws_alike before after own s (Some (items.Crypto q x)) next e d = d
draws_alike before after own s (Some (items.Success k by)) next e d = d
draws_alike before after own s (Some items.Simplify) next e d = d

through_alike : (ds : List Declaration) (known : ℕ → Bool) (own : ℕ) (game : Tree) (ts : List Transition) (before : Table) (tables : List Table) → AreNameless (map (λ (t : Transition). t.step) ts) → DrawsThrough true ds known own game (map told ts) before tables
    → DrawsThrough false ds known own game (map told ts) before tables
through_alike ds known own game [] before [] n d = tt
through_alike ds known own game [] before (m ∷ ms) n d = absurd d
through_alike ds known own game (t ∷ ts) before [] n d = absurd d
through_alike ds known own game (t ∷ ts) before (after ∷ tables) n d =
    (draws_alike before after own (scene ds known game) (items_of_step t.step) (game_after (told t).1 game) n.0 d.0, through_alike ds known own (game_after (told t).1 game) ts after tables n.1 d.1)

module _ (source other : Given) (r q : Report) (f g : File) (w : IsReportOf source r f) (v : IsReportOf other q g) (b : AreGivenBack source other r q f g w v) where
  abbrev found : Content
  found = file_in r f w.names

  abbrev whole : Content
  whole = with_block (steps_of w.course) found

  apart : NoRepeat whole.names
  apart = stand_once most_pool source found w.file

  -- both courses are those of the file with the block

  without_block : IsCourse true found.declarations found.own found.game found.names w.course
  without_block = subst (λ (o : Option (List Tree)). IsCourse (is_without_block o) found.declarations found.own found.game found.names w.course) b.without w.is

  its_found : IsIts whole w.course
  its_found = record { leads = without_block.leads; drawn = through_alike found.declarations (known_to found.own) found.own found.game w.course.proof found.names w.course.tables b.nameless without_block.drawn }

  its_followed : IsIts whole v.course
  its_followed = subst (λ (c : Content). IsCourse (is_without_block c.script) c.declarations c.own c.game c.names v.course) b.block v.is

  -- the block has the steps that were followed in front

  follows : FollowsScript q whole (steps_of w.course) v.course
  follows = subst (λ (c : Content). Proceeds q c v.course c.script) b.block v.follows

  split : steps_of w.course ≡ steps_of v.course ++ follows.ends.left
  split =
      let stands = subst (λ x. StandsBy x follows.nodes (steps_of w.course) follows.steps follows.room) b.plain follows.stands in
      sym stands.0 ∙ follows.ends.split

  list : HaveOneList whole v.course.proof w.course.proof
  list = record { left = follows.ends.left; rest = []; one = sym split ∙ sym (append-nil (steps_of w.course)) }

  few : length v.course.proof ≤ length w.course.proof
  few =
      let here = length-map w.course.proof (λ (t : Transition). t.step) in
      let there = length-map v.course.proof (λ (t : Transition). t.step) in
      let both = ap length split ∙ length-append (steps_of v.course) follows.ends.left in
      omega arith

  pub is_front : v.course.proof ≡ take (length v.course.proof) w.course.proof
  is_front = front_taken whole apart v.course w.course its_followed its_found list few

  pub is_course : length v.course.proof ≡ length w.course.proof → v.course ≡ w.course
  is_course same = one_course whole apart v.course w.course its_followed its_found list same

  -- so both print one text, but for the last line

  names_is : length v.course.proof ≡ length w.course.proof → r.work.names ≡ q.work.names
  names_is same = w.drawn ∙ (ap (λ (k : Course). names_behind found.names k.tables) (sym (is_course same)) ∙ (ap (λ (c : Content). names_behind c.names v.course.tables) (sym b.block) ∙ sym v.drawn))

  verdicts_is : length v.course.proof ≡ length w.course.proof → r.verdicts.items ≡ q.verdicts.items
  verdicts_is same = w.verdicts ∙ (ap (λ (k : Course). verdicts_of k.proof (queries_in found.declarations)) (sym (is_course same)) ∙ (ap (λ (c : Content). verdicts_of v.course.proof (queries_in c.declarations)) (sym b.block) ∙ sym v.verdicts))

  order_is : parameters_in r.work.decls.list ≡ parameters_in q.work.decls.list
  order_is =
      parameters_are r.work.pool.trees r.work.decls.list
      ∙ (ap (λ (c : Content). flat_map parameter_of c.declarations) (sym b.block)
      ∙ sym (parameters_are q.work.pool.trees q.work.decls.list))

  pub is_text : query_in r.command ≡ query_in q.command → length v.course.proof ≡ length w.course.proof → body_text r f w.names w.course ≡ body_text q g v.names v.course
  is_text asked same =
      let lines = ap (λ (k : Course). lines_text (lines_of found.names (parameters_in r.work.decls.list) found.game k)) (sym (is_course same))
      ∙ (ap (λ (c : Content). lines_text (lines_of c.names (parameters_in r.work.decls.list) c.game v.course)) (sym b.block)
      ∙ ap (λ (ps : List ℕ). lines_text (lines_of (take v.names q.work.names) ps (tree_at q.work.pool.trees (Some g.game.root)) v.course)) order_is) in
      ap₂ ◌++◌ lines (ap₂ (λ (ns : List (List ℕ)) (vs : List Verdict). verdicts_asked ns (query_in r.command) vs) (names_is same) (verdicts_is same)
      ∙ ap (λ (k : Option ℕ). verdicts_asked q.work.names k q.verdicts.items) asked)
