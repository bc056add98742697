use Rattle.std.proofs.Common.{rules}
use Rattle.l3_huff.proofs.Joined.{digits-append, joined-lt, joined_fits, shifted}
use Rattle.l3_huff.proofs.code.Code.followed_by.Goals as goal

pub overflow_add-result : goal.overflow_add-result
overflow_add-result c =
    let a = c.args.self.length in
    let v = c.args.self.value in
    let fits = joined_fits a c.args.length v c.args.value c.requires.code c.requires.value c.requires.room in
    rw (shifted a c.args.length v c.args.value c.requires.code c.requires.value c.requires.room) (search rules)

pub returns-clause-digits : goal.returns-clause-digits
returns-clause-digits c =
    let a = c.args.self.length in
    let v = c.args.self.value in
    rw (shifted a c.args.length v c.args.value c.requires.code c.requires.value c.requires.room)
    (digits-append a c.args.length v c.args.value c.requires.code c.requires.value)

pub returns-clause-small : goal.returns-clause-small
returns-clause-small c =
    let a = c.args.self.length in
    let v = c.args.self.value in
    rw (shifted a c.args.length v c.args.value c.requires.code c.requires.value c.requires.room)
    (joined-lt a c.args.length v c.args.value c.requires.code c.requires.value)
