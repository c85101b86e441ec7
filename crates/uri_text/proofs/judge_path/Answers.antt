-- `judge_path` meets its contract: by its first character.
use Rattle.uri_text.proofs.Tallying.{path_none, path_bad}
use Rattle.uri_text.proofs.judge_path.Goals as goal

pub returns-then-path-eq0 : goal.returns-then-path-eq0
returns-then-path-eq0 c = path_none c.args.path.now c.if-path-eq0.true

pub returns-then-path-ne47 : goal.returns-then-path-ne47
returns-then-path-ne47 c = path_bad c.args.path.now c.if-path-eq0.false c.if-path-ne47.true
