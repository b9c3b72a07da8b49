use Rattle.std.proofs.Common.{◌≡◌, ◌+◌, ◌≤◌, ◌++◌, ◌∷◌, [], List, ap, sym, ◌∙◌, arith, length}
use Rattle.std.proofs.lemmas.List.{nil_from_length}
use Rattle.cv_parse_names.specs.indices.Sites.{tasks_at}
use Rattle.cv_parse_names.specs.declared.indices.sites.Task.{Task}
use Rattle.cv_parse_names.specs.declared.indices.sites.Task.TheVariants.{Look, Define}
use Rattle.cv_parse_names.proofs.indices.Settling.{settles_first, settles_define, settles_look, settles_end, within_first, within_task, within_rest, within_look, look_less}
use Rattle.cv_parse_names.proofs.indices.sites.first_sites.Goals as goal

taken : (old new : List Task) (task known : Task) → old ≡ new ++ task ∷ [] → task ≡ known → old ≡ new ++ known ∷ []
taken old new task known e f = e ∙ ap (λ k. new ++ k ∷ []) f

pub tasks-init : goal.tasks-init
tasks-init c =
    let one = c.in_ok-push.ensures.items ∙ ap (λ l. l ++ Look 0 ∷ []) c.new-tasks.ensures.items in
    record {
      within = omega arith;
      levels = within_first (length c.args.makes.now) c.push.new.self.items one;
      settles = λ t e. settles_first c.args.makes.now t c.new-sites.result c.push.new.self.items c.new-sites.ensures.empty one e;
    }

pub tasks-preserved-in_ok-insert-in-Define : goal.tasks-preserved-in_ok-insert-in-Define
tasks-preserved-in_ok-insert-in-Define c =
    let e = taken c.tasks.tasks.items c.pop.new.self.items c.in-Some.task (Define c.in-Define.name c.in-Define.level) c.in-Some.ensures.items c.in-Define.is in
    record {
      within = c.tasks.invariant.within;
      levels = within_rest (length c.args.makes.now) c.tasks.at c.tasks.tasks.items c.pop.new.self.items (Define c.in-Define.name c.in-Define.level) e c.tasks.invariant.levels;
      settles = λ t f. settles_define c.args.makes.now c.tasks.at t c.tasks.tasks.items c.pop.new.self.items c.in-Define.name c.in-Define.level c.tasks.sites c.insert.new.self e c.in_ok-insert-in-Define.ensures.updates (c.tasks.invariant.settles t f);
    }

pub add_tasks-requires : goal.add_tasks-requires
add_tasks-requires c =
    let e = taken c.tasks.tasks.items c.pop.new.self.items c.in-Some.task (Look c.in-Look.level) c.in-Some.ensures.items c.in-Look.is in
    let l : c.in-Look.level + c.tasks.at ≤ length c.args.makes.now = within_task (length c.args.makes.now) c.tasks.at c.tasks.tasks.items c.pop.new.self.items (Look c.in-Look.level) e c.tasks.invariant.levels in
    omega arith

pub tasks-smaller : goal.tasks-smaller
tasks-smaller c =
    let e = taken c.tasks.tasks.items c.pop.new.self.items c.in-Some.task (Look c.in-Look.level) c.in-Some.ensures.items c.in-Look.is in
    let f = c.in_ok-add_tasks-in-Look.ensures ∙ ap (λ m. c.pop.new.self.items ++ tasks_at c.in-Look.level m) c.part_before.ensures in
    look_less c.args.makes.now c.tasks.at c.saturating_sub-at.result c.tasks.tasks.items c.pop.new.self.items c.add_tasks.new.tasks.items c.in-Look.level e f c.saturating_sub-at.ensures

pub tasks-preserved : goal.tasks-preserved
tasks-preserved c =
    let e = taken c.tasks.tasks.items c.pop.new.self.items c.in-Some.task (Look c.in-Look.level) c.in-Some.ensures.items c.in-Look.is in
    let f = c.in_ok-add_tasks-in-Look.ensures ∙ ap (λ m. c.pop.new.self.items ++ tasks_at c.in-Look.level m) c.part_before.ensures in
    record {
      within = omega (arith, c.saturating_sub-at.ensures);
      levels = within_look c.args.makes.now c.tasks.at c.saturating_sub-at.result c.tasks.tasks.items c.pop.new.self.items c.add_tasks.new.tasks.items c.in-Look.level e f c.saturating_sub-at.ensures c.tasks.invariant.levels;
      settles = λ t g. settles_look c.args.makes.now c.tasks.at c.saturating_sub-at.result t c.tasks.tasks.items c.pop.new.self.items c.add_tasks.new.tasks.items c.in-Look.level c.tasks.sites e f c.tasks.invariant.within c.saturating_sub-at.ensures (c.tasks.invariant.settles t g);
    }

pub returns : goal.returns
returns c = λ t e. settles_end c.args.makes.now c.tasks.at t c.tasks.tasks.items c.tasks.sites (nil_from_length c.tasks.tasks.items (sym c.tasks.tasks.ok.0 ∙ c.in_default.ensures.cases.0)) (c.tasks.invariant.settles t e)
