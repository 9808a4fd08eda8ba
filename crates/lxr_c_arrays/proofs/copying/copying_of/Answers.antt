use Rattle.std.proofs.Common.{◌≡◌, ◌∙◌, Some, ap}
use Rattle.std.specs.Prelude.{Ok, Err}
use Rattle.std.proofs.lemmas.Result.{err_from_is_err_and}
use Rattle.lxr_large_model.specs.History.{large_state}
use Rattle.lxr_c_arrays.specs.Plans.{copying_by}
use Rattle.lxr_c_arrays.specs.Sides.{range_of}
use Rattle.lxr_c_arrays.proofs.copying.copying_of.Goals as goal

pub returns-in_err-to-clause-copying : goal.returns-in_err-to-clause-copying
returns-in_err-to-clause-copying c = λ h is.
    let (error, fails, same) = err_from_is_err_and c.from_residual.result c.from_residual.ensures.1 in
    let failed : c.from_residual.result ≡ Err c.in_err-to.field-0.0 = fails ∙ ap (λ e. Err e) same in
    failed ∙ ap (λ q. copying_by c.args.own c.args.at c.args.first c.args.count q (range_of (large_state h) (Some c.args.own.second) c.args.pair.other c.args.first c.args.count)) (c.in_err-to.ensures.told h is)

pub returns-in_err-from-clause-copying : goal.returns-in_err-from-clause-copying
returns-in_err-from-clause-copying c = λ h is.
    let (error, fails, same) = err_from_is_err_and c.from_residual-in_err-from.result c.from_residual-in_err-from.ensures.1 in
    let failed : c.from_residual-in_err-from.result ≡ Err c.in_err-from.field-0.0 = fails ∙ ap (λ e. Err e) same in
    failed
    ∙ ap (copying_by c.args.own c.args.at c.args.first c.args.count (Ok c.in_ok-to.to)) (c.in_err-from.ensures.told h is)
    ∙ ap (λ q. copying_by c.args.own c.args.at c.args.first c.args.count q (range_of (large_state h) (Some c.args.own.second) c.args.pair.other c.args.first c.args.count)) (c.in_ok-to.ensures.told h is)

pub returns-clause-copying : goal.returns-clause-copying
returns-clause-copying c = λ h is.
    ap (copying_by c.args.own c.args.at c.args.first c.args.count (Ok c.in_ok-to.to)) (c.in_ok-from.ensures.told h is)
    ∙ ap (λ q. copying_by c.args.own c.args.at c.args.first c.args.count q (range_of (large_state h) (Some c.args.own.second) c.args.pair.other c.args.first c.args.count)) (c.in_ok-to.ensures.told h is)
