-- A script in version 2. This project's own.
use Rattle.script_line.specs.declared.version.Version.TheVariants.{Two}
use Rattle.script_cmds.specs.declared.form.Form.{Form}
use Rattle.script_cmds.specs.declared.script.Script.{Script}

-- the form with version 2, and as many queues
abbrev pub upgraded_form : Form → Form
upgraded_form form = record form { version = Two }

-- the script with version 2, and all else as it was
abbrev pub upgraded : Script → Script
upgraded script = record script { form = upgraded_form script.form }
