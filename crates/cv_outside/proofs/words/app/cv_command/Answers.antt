use Rattle.std.proofs.Common.{◌≡◌, ◌∙◌, ◌||◌, ap, ap₂}
use Rattle.std.proofs.lemmas.Result.{IfOk-weaker}
use Rattle.clap.specs.Words.{App, app_of, with_rule, with_subcommand}
use Rattle.cv_outside.specs.words.Clap.{games_app, prove_app, sample_app}
use Rattle.cv_outside.proofs.words.app.cv_command.Goals as goal

pub returns : goal.returns
returns c =
    let prove_is : app_of c.in_ok-prove.prove ≡ prove_app = c.in_ok-prove.ensures.shape c.query_arg-query.ensures.local
    ∙ ap₂ with_rule (c.in_ok-arg-4.ensures.shape c.lib_arg-lib.ensures.local
    ∙ ap₂ with_rule (c.in_ok-arg-3.ensures.shape c.more_arg-more.ensures.local
    ∙ ap₂ with_rule (c.in_ok-arg-2.ensures.shape c.moves_arg-moves.ensures.local
    ∙ ap₂ with_rule (c.in_ok-arg.ensures.shape c.file_arg-file.ensures.local ∙ ap₂ with_rule c.new.ensures.app c.file_arg-file.ensures.rule) c.moves_arg-moves.ensures.rule) c.more_arg-more.ensures.rule) c.lib_arg-lib.ensures.rule) c.query_arg-query.ensures.rule in
    let prove_local = c.in_ok-prove.ensures.globals
    ∙ ap₂ ◌||◌ (c.in_ok-arg-4.ensures.globals
    ∙ ap₂ ◌||◌ (c.in_ok-arg-3.ensures.globals
    ∙ ap₂ ◌||◌ (c.in_ok-arg-2.ensures.globals
    ∙ ap₂ ◌||◌ (c.in_ok-arg.ensures.globals ∙ ap₂ ◌||◌ c.new.ensures.local c.file_arg-file.ensures.local) c.moves_arg-moves.ensures.local) c.more_arg-more.ensures.local) c.lib_arg-lib.ensures.local) c.query_arg-query.ensures.local in
    let games_is : app_of c.in_ok-games.games ≡ games_app = c.in_ok-games.ensures.shape c.lib_arg-used.ensures.local
    ∙ ap₂ with_rule (c.in_ok-arg-5.ensures.shape c.file_arg-shown.ensures.local ∙ ap₂ with_rule c.new-2.ensures.app c.file_arg-shown.ensures.rule) c.lib_arg-used.ensures.rule in
    let games_local = c.in_ok-games.ensures.globals
    ∙ ap₂ ◌||◌ (c.in_ok-arg-5.ensures.globals ∙ ap₂ ◌||◌ c.new-2.ensures.local c.file_arg-shown.ensures.local) c.lib_arg-used.ensures.local in
    let sample_is : app_of c.in_ok-sample.sample ≡ sample_app = c.in_ok-sample.ensures.shape c.prove_arg-flag.ensures.local
    ∙ ap₂ with_rule (c.in_ok-arg-6.ensures.shape c.number_arg-number.ensures.local ∙ ap₂ with_rule c.new-3.ensures.app c.number_arg-number.ensures.rule) c.prove_arg-flag.ensures.rule in
    let sample_local = c.in_ok-sample.ensures.globals
    ∙ ap₂ ◌||◌ (c.in_ok-arg-6.ensures.globals ∙ ap₂ ◌||◌ c.new-3.ensures.local c.number_arg-number.ensures.local) c.prove_arg-flag.ensures.local in
    IfOk-weaker c.subcommand-3.result _ _
    (λ r h. h.shape sample_local
    ∙ ap₂ with_subcommand (c.in_ok-subcommand-2.ensures.shape games_local
    ∙ ap₂ with_subcommand (c.in_ok-subcommand.ensures.shape prove_local ∙ ap₂ with_subcommand c.quiet_command.ensures (ap (λ (a : App). a.top) prove_is)) (ap (λ (a : App). a.top) games_is)) (ap (λ (a : App). a.top) sample_is))
    c.subcommand-3.ensures
